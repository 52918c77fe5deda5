use Rattle.std.proofs.Common.{◌≡◌, ℕ, ◌+◌, ◌<◌, ◌++◌, List, ◌∷◌, [], drop, get_or, length, map, set, sym, ap, ◌∙◌, take, append_assoc, arith}
use Rattle.std.specs.Prelude.{All}
use Rattle.std.proofs.lemmas.List.{drop-set-lt, drop_more, take_more_set}
use Rattle.std.proofs.lemmas.List.Elements.{All-rest}
use Rattle.linda_wire.specs.declared.limits.TheConstants.{NUMBER_LIMIT}
use Rattle.linda_client.proofs.client.use_each.Goals as goal

-- one number more is used
one_more : (xs all : List ℕ) (i : ℕ) → i < length xs → (take i xs ++ map (λ n. n + 1) (drop i xs) ≡ all) × All (λ n. n < NUMBER_LIMIT) (drop i xs)
    → (take (i + 1) (set xs i (get_or xs i 0 + 1)) ++ map (λ n. n + 1) (drop (i + 1) (set xs i (get_or xs i 0 + 1))) ≡ all)
    × All (λ n. n < NUMBER_LIMIT) (drop (i + 1) (set xs i (get_or xs i 0 + 1)))
one_more xs all i low h = (
  ap (λ l. l ++ map (λ n. n + 1) (drop (i + 1) (set xs i (get_or xs i 0 + 1)))) (take_more_set xs i (get_or xs i 0 + 1) low)
      ∙ ap (λ l. (take i xs ++ (get_or xs i 0 + 1) ∷ []) ++ map (λ n. n + 1) l) later
      ∙ append_assoc (take i xs) ((get_or xs i 0 + 1) ∷ []) (map (λ n. n + 1) (drop (i + 1) xs))
      ∙ ap (λ l. take i xs ++ map (λ n. n + 1) l) (sym here)
      ∙ h.0,
  All-rest (λ n. n < NUMBER_LIMIT) (get_or xs i 0) (drop (i + 1) (set xs i (get_or xs i 0 + 1)))
      (drop i xs) (here ∙ ap (λ l. get_or xs i 0 ∷ l) (sym later)) h.1,
)
  where
    later : drop (i + 1) (set xs i (get_or xs i 0 + 1)) ≡ drop (i + 1) xs
    later = let less : i < i + 1 = omega arith in drop-set-lt (i + 1) xs i (get_or xs i 0 + 1) less

    here : drop i xs ≡ get_or xs i 0 ∷ drop (i + 1) xs
    here = drop_more xs i 0 low

pub loop-n-preserved : goal.loop-n-preserved
loop-n-preserved c =
    let same = c.loop-n.auto.n-items in
    let within = c.loop-n-test.true in
    let low : c.loop-n.n-index < length c.loop-n.n-items = omega arith in
    one_more c.loop-n.n-items _ c.loop-n.n-index low c.loop-n.invariant
