-- Rows of a finite map by numbers: in order, by their look-ups, and what a change of the map is to these.
use Rattle.std.proofs.Common.{◌≡◌, ℕ, cond, None, Some, sym, ap, ◌∙◌, nat_cmp}
use Rattle.std.specs.Ordering.{is_eq}
use Rattle.std.specs.List.Sorted.{IsStrictlySortedBy}
use Rattle.std.specs.Map.{lookup, keys_of}
use Rattle.std.specs.BTreeMap.{is_at}
use Rattle.std.specs.FinMap.{FinMap, entries, get, insert, remove, entries_sorted, get-entries}
use Rattle.linda_map_laws.proofs.MapLaws.{find_is_lookup, get_inserted, get_removed}
use Rattle.linda_bag.proofs.TuplesLaws.{told}
use Rattle.linda_hold.proofs.NumberedLaws.{sorted_told}

module _ {X : Type 0} (rows : FinMap nat_cmp X) where
  pub rows_ordered : IsStrictlySortedBy nat_cmp (keys_of (entries rows))
  rows_ordered = sorted_told (entries rows) (entries_sorted rows)

  pub row_found : (q : ℕ) → get rows q ≡ lookup (is_at (nat_cmp q)) (entries rows)
  row_found q = get-entries rows q ∙ find_is_lookup q (entries rows)

-- What a change of a map is to its look-ups, by the test of an index.
module _ {X : Type 0} (old new : FinMap nat_cmp X) (k : ℕ) where
  pub row_put : (v : X) → new ≡ insert old k v → (q : ℕ) → get new q ≡ cond (is_eq (nat_cmp k q)) (Some v) (get old q)
  row_put v is q = ap (λ m. get m q) is ∙ get_inserted old k v q ∙ ap (λ b. cond b (Some v) (get old q)) (sym (told k q))

  pub row_gone : new ≡ remove old k → (q : ℕ) → get new q ≡ cond (is_eq (nat_cmp k q)) None (get old q)
  row_gone is q = ap (λ m. get m q) is ∙ get_removed old k q ∙ ap (λ b. cond b None (get old q)) (sym (told k q))
