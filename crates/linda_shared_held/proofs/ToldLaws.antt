-- The end of a list of reports, and how many receipts it has. They are here because `using` names files of its own crate only.
use Rattle.std.proofs.Common.{◌≡◌, List, [], ◌∷◌, ◌++◌, ap, ◌∙◌, map, reverse, append_assoc}
use Rattle.std.proofs.lemmas.List.{map-append, reverse-append}
pub use Rattle.linda_shared_accounts.proofs.WeightLaws.{receipts_snoc}

-- The last item of a list is the first one of its reverse.
pub map_back : {X Y : Type 0} (f : X → Y) (xs : List X) (x : X) → reverse (map f (xs ++ x ∷ [])) ≡ f x ∷ reverse (map f xs)
map_back f xs x = ap reverse (map-append f xs (x ∷ [])) ∙ reverse-append (map f xs) (f x ∷ [])

-- What is pushed comes before the rest.
pub behind : {X Y : Type 0} (f : X → Y) (xs : List X) (x : X) (ys : List Y) → map f (xs ++ x ∷ []) ++ ys ≡ map f xs ++ f x ∷ ys
behind f xs x ys = ap (λ l. l ++ ys) (map-append f xs (x ∷ [])) ∙ append_assoc (map f xs) (f x ∷ []) ys
