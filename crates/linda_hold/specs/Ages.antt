-- Ages: in which second each number was noted, and in which order the numbers were.
use Rattle.std.specs.Prelude.{◌≡◌, ◌⊎◌, ℕ, ◌-◌, List, Option, None, Some, cond, nat_eq, slice_get}
use Rattle.std.specs.Prelude.{option_and_then, option_to_list}
use Rattle.std.specs.Option.{option_map}
use Rattle.std.specs.Ordering.{nat_cmp}
use Rattle.std.specs.BTreeMap as tree
use Rattle.linda_hold.specs.declared.ages.Age.{Age}
use Rattle.linda_hold.specs.declared.ages.Ages.{Ages}

-- in which second the number was noted
abbrev pub noted_at : Ages → ℕ → Option ℕ
noted_at ages number = option_map (λ n. n.second) (tree.get nat_cmp ages.noted number)

-- for how many seconds the number is noted
abbrev pub age_at : Ages → ℕ → Option ℕ
age_at ages number = option_map (λ second. ages.second - second) (noted_at ages number)

-- the number with its age, if it is noted
abbrev pub aged_at : Ages → ℕ → List Age
aged_at ages number =
    option_to_list
    (option_map (λ seconds. record { number = number; seconds = seconds }) (age_at ages number))

-- the numbers in the order in which they were noted
abbrev pub in_order : Ages → List ℕ
in_order ages = tree.values ages.order

-- the age of the number that is first in this order
abbrev pub oldest_of : Ages → Option ℕ
oldest_of ages = option_and_then (λ p. age_at ages p.1) (slice_get ages.order.entries 0)

-- This number has that second, none if it is not noted; all else is noted as before.
abbrev pub Sets : Ages → Ages → ℕ → Option ℕ → Type 0
Sets old new number second =
    (new.second ≡ old.second)
    × ((q : ℕ) → noted_at new q ≡ cond (nat_eq number q) second (noted_at old q))

-- The number is not noted, and the next one gets the place that it would have got.
abbrev pub IsForgotten : Ages → Ages → ℕ → Type 0
IsForgotten old new number = Sets old new number None × (new.next ≡ old.next)

-- The number is noted in the present second, and is next in the order; or it is not noted, as
-- memory ran out.
abbrev pub IsNoted : Ages → Ages → ℕ → Type 0
IsNoted old new number =
    (Sets old new number (Some old.second) × (tree.get nat_cmp new.order old.next ≡ Some number))
    ⊎ Sets old new number None
