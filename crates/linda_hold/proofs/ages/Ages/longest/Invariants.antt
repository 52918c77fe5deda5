use Rattle.std.proofs.Common.{◌≡◌, ◌≤◌, ◌++◌, length, flat_map}
use Rattle.linda_hold.specs.Ages.{aged_at, in_order}
use Rattle.linda_hold.proofs.ages.Ages.longest.Given as goal

-- What was found, before the ages of the numbers that are left, is all; and there is room for one.
abbrev pub invariant-loop-number : goal.invariant-loop-number
invariant-loop-number l =
    (goal.iterator-loop-number).can_next l.number-iterator
    × (goal.iterator-loop-number).is_finite l.number-iterator
    × (l.found.items ++ flat_map (aged_at l.self) l.number-iterator ≡ flat_map (aged_at l.self) (in_order l.self))
    × (length l.found.items ≤ l.most)
