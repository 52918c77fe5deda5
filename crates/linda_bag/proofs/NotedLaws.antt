-- The ids of a set are those of the rows, also after the set and one row were changed.
use Rattle.std.proofs.Common.{◌≡◌, ℕ, Bool, true, false, cond, Option, is_some, refl, ◌∙◌, nat_cmp}
use Rattle.std.specs.Ordering.{is_eq}
use Rattle.linda_bag.specs.Filing.{Rows, with_row}

module _ {T : Type 0} (old new : ℕ → Bool) (rows : Rows T) (id : ℕ) (noted : (q : ℕ) → old q ≡ is_some (rows q)) where
  pub noted_with : (b : Bool) (row : Option T) → ((q : ℕ) → new q ≡ cond (is_eq (nat_cmp id q)) b (old q))
      → b ≡ is_some row → (q : ℕ) → new q ≡ is_some (with_row rows id row q)
  noted_with b row changed same q =
      changed q
      ∙ elim (is_eq (nat_cmp id q)) as (λ t. cond t b (old q) ≡ is_some (cond t row (rows q))) [ true ↦ same | false ↦ noted q ]

-- Whether an id is one of a set depends on whether it has a row, not on which.
pub any_row : {T : Type 0} (has : ℕ → Bool) (rows : Rows T) (id : ℕ) (before after : Option T) → is_some after ≡ is_some before
    → ((q : ℕ) → has q ≡ is_some (with_row rows id after q)) → (q : ℕ) → has q ≡ is_some (with_row rows id before q)
any_row has rows id before after same noted q =
    noted q
    ∙ elim (is_eq (nat_cmp id q)) as (λ t. is_some (cond t after (rows q)) ≡ is_some (cond t before (rows q))) [ true ↦ same | false ↦ refl ]
