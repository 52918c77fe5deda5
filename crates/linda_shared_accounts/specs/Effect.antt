-- Effects of messages, and their weight in the ledger.
use Rattle.std.specs.Prelude.{ℕ, List, Option, Some, None}
use Rattle.std.specs.List.{sum_by}
use Rattle.linda_shared_accounts.specs.declared.effect.Effect.{Effect}
use Rattle.linda_shared_accounts.specs.declared.effect.Effect.TheVariants as tidings

module _ {R : Type 0} where
  -- 1 if a deed was made, else 0
  abbrev pub weight : Effect R → ℕ
  weight (tidings.Deed r) = 1
  weight tidings.NoDeed = 0
  weight (tidings.Failed fault) = 0

  -- how many deeds all of them made
  abbrev pub weights : List (Effect R) → ℕ
  weights ts = sum_by weight ts

  -- the effect of a message, given the receipt of its deed, if it made one
  abbrev pub told_of : Option R → Effect R
  told_of (Some r) = tidings.Deed r
  told_of None = tidings.NoDeed
