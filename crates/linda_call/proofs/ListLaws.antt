-- Lists that a loop changes one by one.
use Rattle.std.proofs.Common.{◌≡◌, ℕ, ◌+◌, ◌<◌, ◌++◌, List, ◌∷◌, [], drop, get_or, length, map, set, sym, ap, ◌∙◌, take, append_assoc, arith}
use Rattle.std.proofs.lemmas.List.{drop-set-lt, drop_more, take_more_set}

-- one element more is changed, and those that are left will be
pub changed_next : {X : Type 0} (f : X → X) (xs all : List X) (i : ℕ) (d : X) → i < length xs → take i xs ++ map f (drop i xs) ≡ all
    → take (i + 1) (set xs i (f (get_or xs i d))) ++ map f (drop (i + 1) (set xs i (f (get_or xs i d)))) ≡ all
changed_next f xs all i d low so =
    ap (λ l. l ++ map f (drop (i + 1) (set xs i (f (get_or xs i d))))) (take_more_set xs i (f (get_or xs i d)) low)
    ∙ ap (λ l. (take i xs ++ f (get_or xs i d) ∷ []) ++ map f l) later
    ∙ append_assoc (take i xs) (f (get_or xs i d) ∷ []) (map f (drop (i + 1) xs))
    ∙ ap (λ l. take i xs ++ map f l) (sym here)
    ∙ so
  where
    later : drop (i + 1) (set xs i (f (get_or xs i d))) ≡ drop (i + 1) xs
    later = let less : i < i + 1 = omega arith in drop-set-lt (i + 1) xs i (f (get_or xs i d)) less

    here : drop i xs ≡ get_or xs i d ∷ drop (i + 1) xs
    here = drop_more xs i d low
