-- A list that grows by one part after another, beside what is still to come.
use Rattle.std.proofs.Common.{◌≡◌, List, [], ◌∷◌, ◌++◌, append_assoc, sym, ap, ◌∙◌, append-nil}

-- one part more
pub part_more : {A : Type 0} (new old here next rest whole : List A) → new ≡ old ++ here → next ≡ here ++ rest → old ++ next ≡ whole → new ++ rest ≡ whole
part_more new old here next rest whole pushed split before = rw pushed (append_assoc old here rest ∙ ap (λ xs. old ++ xs) (sym split) ∙ before)

-- no part is left
pub part_none : {A : Type 0} (found next whole : List A) → next ≡ [] → found ++ next ≡ whole → found ≡ whole
part_none found next whole none before = sym (append-nil found) ∙ ap (λ xs. found ++ xs) (sym none) ∙ before

-- one element, and then a part
pub part_after : {A : Type 0} (old pushed new : List A) (x : A) (here : List A) → pushed ≡ old ++ x ∷ [] → new ≡ pushed ++ here → new ≡ old ++ (x ∷ here)
part_after old pushed new x here first more = more ∙ ap (λ xs. xs ++ here) first ∙ append_assoc old (x ∷ []) here

-- a part after what is known to be the same
pub part_on : {A : Type 0} (before old new here : List A) → before ≡ old → new ≡ before ++ here → new ≡ old ++ here
part_on before old new here same more = more ∙ ap (λ xs. xs ++ here) same

-- a part, after nothing
pub part_alone : {A : Type 0} (old new here all : List A) → old ≡ [] → here ≡ all → new ≡ old ++ here → new ≡ all
part_alone old new here all none is more = more ∙ ap (λ xs. xs ++ here) none ∙ is
