-- Kinds that are kept one after the other.
use Rattle.std.proofs.Common.{◌≡◌, ◌++◌, Bool, List, [], ◌∷◌, filter, sym, ap, ◌∙◌}
use Rattle.std.proofs.lemmas.List.{append_assoc}
use Rattle.std.proofs.lemmas.List.Elements.{filter-append}
use Rattle.linda_shared_listing.specs.declared.kinds.ListedKind.{ListedKind}

pub one_kept : (p : ListedKind → Bool) (old rows new yielded : List ListedKind) (row : ListedKind)
    → rows ≡ old ++ filter p yielded → new ≡ rows ++ filter p (row ∷ []) → new ≡ old ++ filter p (yielded ++ row ∷ [])
one_kept p old rows new yielded row far put =
    put ∙ (ap (λ (rs : List ListedKind). rs ++ filter p (row ∷ [])) far
    ∙ (append_assoc old (filter p yielded) (filter p (row ∷ []))
    ∙ ap (λ (rs : List ListedKind). old ++ rs) (sym (filter-append p yielded (row ∷ [])))))
