-- What an index has of waits follows from what its parts have.
use Rattle.std.proofs.Common.{◌≡◌, ℕ, Option, None, Some, true, false, cond, refl, sym, ap, subst, nat_cmp}
use Rattle.std.specs.Ordering.{is_eq}
use Rattle.std.specs.Option.{option_map}
use Rattle.linda_bag.specs.Filing.{Rows, with_row, Refiles}
use Rattle.linda_bag.proofs.FilingLaws.{same_rows}
use Rattle.linda_bag.proofs.KeptLaws.{undone}

-- What a part of each row is filed by: what had the parts of the rows has them still, as the rows change.
module _ {T A : Type 0} (part : T → A) where
  abbrev part_of : Rows T → Rows A
  part_of rows q = option_map part (rows q)

  part_with : (rows : Rows T) (k : ℕ) (o : Option T) → with_row (part_of rows) k (option_map part o) ≡ part_of (with_row rows k o)
  part_with rows k o = λ j. λ q. at q j
    where
      at : (q : ℕ) → with_row (part_of rows) k (option_map part o) q ≡ part_of (with_row rows k o) q
      at q =
          elim (is_eq (nat_cmp k q)) as (λ b. cond b (option_map part o) (option_map part (rows q)) ≡ option_map part (cond b o (rows q))) [
            | true ↦ refl
            | false ↦ refl
          ]

  pub renamed : (Old New : Rows A → Type 0) (k : ℕ) (old new : Option T) → Refiles Old New k (option_map part old) (option_map part new)
      → Refiles (λ (rows : Rows T). Old (part_of rows)) (λ (rows : Rows T). New (part_of rows)) k old new
  renamed Old New k old new refiles rows there has =
      subst New (part_with rows k new) (refiles (part_of rows) (ap (option_map part) there) has)

module _ {T : Type 0} (k : ℕ) where
  -- What does not change has what it had.
  pub unchanged : (Has : Rows T → Type 0) (o : Option T) → Refiles Has Has k o o
  unchanged Has o rows there has = subst Has (sym (same_rows rows k o there)) has

  -- What was put in and taken out again has what it had.
  pub twice : (Old Mid New : Rows T → Type 0) (row : T) → Refiles Old Mid k None (Some row) → Refiles Mid New k (Some row) None → Refiles Old New k None None
  twice Old Mid New row put gone rows there has =
      subst New (sym (same_rows rows k None there)) (undone Old New rows k Mid row row None there there refl put gone has)
