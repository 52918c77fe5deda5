-- What an index has, beside the tree that keeps the tuples, once both were changed or neither.
use Rattle.std.proofs.Common.{◌≡◌, ℕ, ◌==◌, Bool, true, false, cond, Option, Some, None, Result, Ok, Err, OnOk, OnErr}
use Rattle.std.proofs.Common.{refl, sym, ap, subst, ◌∙◌, nat_cmp, BTreeMap}
use Rattle.std.specs.Ordering.{is_eq}
use Rattle.std.specs.Cmp.{nat_cmp_total, eq_by_cmp_equiv, unsigned_ties}
use Rattle.std.specs.Map.{lookup}
use Rattle.std.specs.BTreeMap as tree
use Rattle.std.specs.FinMap.{FinMap, get, insert, remove}
use Rattle.linda_bag.specs.Filing.{Rows, with_row, Refiles}
use Rattle.linda_bag.proofs.FilingLaws.{same_row, same_rows}
use Rattle.linda_bag.proofs.OrderLaws.{number_itself}
use Rattle.linda_map_laws.proofs.MapLaws.{get_inserted, get_removed}

module _ {T : Type 0} (Old New : Rows T → Type 0) (rows : Rows T) (id : ℕ) where
  -- It has what it had.
  pub as_before : (row : Option T) → rows id ≡ row → Refiles Old New id row row → Old rows → New rows
  as_before row there refiles has = subst New (same_rows rows id row there) (refiles rows there has)

  -- The tree has another row under the id, and so has the index.
  pub as_after : (now : Rows T) (before after : Option T) → rows id ≡ before
      → ((q : ℕ) → now q ≡ cond (is_eq (nat_cmp id q)) after (rows q)) → Refiles Old New id before after → Old rows → New now
  as_after now before after there changed refiles has = subst New (λ j. λ q. sym (changed q) j) (refiles rows there has)

  -- The index was given a row that the tree was not, and it was taken from the index again.
  pub undone : (Mid : Rows T → Type 0) (row other : T) (before : Option T) → rows id ≡ before → rows id ≡ None
      → other ≡ row → Refiles Old Mid id before (Some row) → Refiles Mid New id (Some other) None → Old rows → New rows
  undone Mid row other before there none same put gone has =
      let mid = with_row rows id (Some row) in
      let here : mid id ≡ Some other = ap (λ b. cond b (Some row) (rows id)) (number_itself id) ∙ ap Some (sym same) in
      subst New (λ j. λ q. back q j) (gone mid here (put rows there has))
    where
      twice : (q : ℕ) (b : Bool) → cond b None (cond b (Some row) (rows q)) ≡ cond b None (rows q)
      twice q true = refl
      twice q false = refl

      back : (q : ℕ) → with_row (with_row rows id (Some row)) id None q ≡ rows q
      back q = twice q (is_eq (nat_cmp id q)) ∙ same_row rows id None none q

-- What follows of each way that a call ends follows of the call.
pub either_way : {A E P P' Q Q' X : Type 0} (r : Result A E) → OnOk r P → OnOk r P' → OnErr r Q → OnErr r Q' → (P → P' → X) → (Q → Q' → X) → X
either_way (Ok a) p p' q q' done kept = done p p'
either_way (Err e) p p' q q' done kept = kept q q'

-- The test of the keys, either way round.
told : (k q : ℕ) → (q == k) ≡ is_eq (nat_cmp k q)
told k q = unsigned_ties q k ∙ sym ((eq_by_cmp_equiv nat_cmp_total).symm k q)

-- The rows of a map after one was set or taken out.
module _ {T : Type 0} (old new : FinMap nat_cmp T) (id : ℕ) where
  pub rows_set : (row : T) → new ≡ insert old id row → (q : ℕ) → get new q ≡ cond (is_eq (nat_cmp id q)) (Some row) (get old q)
  rows_set row is q = ap (λ m. get m q) is ∙ get_inserted old id row q ∙ ap (λ b. cond b (Some row) (get old q)) (told id q)

  pub rows_gone : new ≡ remove old id → (q : ℕ) → get new q ≡ cond (is_eq (nat_cmp id q)) None (get old q)
  rows_gone is q = ap (λ m. get m q) is ∙ get_removed old id q ∙ ap (λ b. cond b None (get old q)) (told id q)

-- Trees with the same entries have the same rows.
pub same_rows_as : {T : Type 0} (Has : Rows T → Type 0) (old new : BTreeMap ℕ T) → new.entries ≡ old.entries
    → Has (tree.get nat_cmp old) → Has (tree.get nat_cmp new)
same_rows_as Has old new same = subst Has (λ j. λ q. lookup (tree.is_at (nat_cmp q)) (sym same j))
