-- Arrivals of requests: which number is the next one of those that are to be looked at, and which
-- waits are still to be looked at.
use Rattle.std.specs.Prelude.{◌≡◌, ℕ, ◌≤◌, ◌<◌, nat_le, Bool, true, false, List, Option, None, Some}
use Rattle.std.specs.Prelude.{filter}
use Rattle.std.specs.Map.{values_of}
use Rattle.linda_tuple.specs.Tuple.{Tuple}
use Rattle.linda_hold.specs.TagIndex.{may_answer}
use Rattle.linda_hold.specs.Waits.{Wait}
use Rattle.linda_hold.specs.Numbered.{in_order}

-- The least of these numbers from one on; nothing only if there is none.
abbrev pub IsNext : (ℕ → Bool) → ℕ → Option ℕ → Type 0
IsNext has from None = (k : ℕ) → from ≤ k → has k ≡ false
IsNext has from (Some next) =
    (from ≤ next) × (has next ≡ true) × ((k : ℕ) → from ≤ k → k < next → has k ≡ false)

-- whether the tuple may answer the wait
abbrev pub may_meet : Tuple → Wait → Bool
may_meet row w = may_answer row (Some w.1)

-- the waits that the tuple may answer, from a number on, in order of arrival
abbrev pub met_from : Tuple → ℕ → List (ℕ × Wait) → List Wait
met_from row from es =
    filter (may_meet row) (values_of (filter (λ e. nat_le from e.0) (in_order es)))
