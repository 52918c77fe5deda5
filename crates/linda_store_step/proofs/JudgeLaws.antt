-- What the verdict on a numbered message says.
use Rattle.std.proofs.Common.{◌≡◌, ◌+◌, ◌<◌, Bool, true, false, cond, refl}
use Rattle.linda_wire.specs.declared.refusal.Refusal.TheVariants as refusals
use Rattle.linda_book.specs.declared.class.Class.{Class}
use Rattle.linda_book.specs.declared.class.Class.TheVariants.{Fresh, Kept, Old, Left, Gap}
use Rattle.linda_book.specs.Classes.{class_of, IsClass}
use Rattle.linda_book.proofs.MeaningLaws.{class_means}
use Rattle.linda_store_step.specs.declared.judge.Demand.{Demand}
use Rattle.linda_store_step.specs.declared.judge.Standing.{Standing}
use Rattle.linda_store_step.specs.declared.judge.Verdict.{Verdict}
use Rattle.linda_store_step.specs.declared.judge.Verdict.TheVariants.{Refused, Repeated, Done}
use Rattle.linda_store_step.specs.Judge.{has_no_place, is_spent_for, judge, judge_class}

-- The number is the client's next one, the client has not left, there is a place for it, and nothing is spent.
pub record IsFresh (d : Demand) (at : Standing) : Type 0 where
  pub number : d.n ≡ at.last + 1
  pub stays : at.left ≡ false
  pub few : has_no_place at ≡ false
  pub unspent : is_spent_for d at ≡ false

-- What each verdict says of the numbers.
abbrev pub IsVerdict : Demand → Standing → Verdict → Type 0
IsVerdict d at (Refused refusal) = Unit {0}
IsVerdict d at Repeated = (d.n ≡ at.last) × (0 < at.last)
IsVerdict d at Done = IsFresh d at

pub verdict_means : (d : Demand) (at : Standing) → IsVerdict d at (judge d at)
verdict_means d at = by (class_of at.last at.left d.n) (class_means at.last at.left d.n)
  where
    fresh_by : (a b : Bool) → has_no_place at ≡ a → is_spent_for d at ≡ b → IsClass at.last at.left d.n Fresh
        → IsVerdict d at (cond a (Refused refusals.TooManyClients) (cond b (Refused refusals.Spent) Done))
    fresh_by true b few unspent next = tt
    fresh_by false true few unspent next = tt
    fresh_by false false few unspent next = record { number = next.0; stays = next.1; few = few; unspent = unspent }

    by : (class : Class) → IsClass at.last at.left d.n class → IsVerdict d at (judge_class d at class)
    by Fresh means = fresh_by (has_no_place at) (is_spent_for d at) refl refl means
    by Kept means = means
    by (Old last) means = tt
    by (Left last) means = tt
    by (Gap last) means = tt
