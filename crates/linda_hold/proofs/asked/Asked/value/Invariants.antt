use Rattle.std.proofs.Common.{◌≡◌, drop}
use Rattle.linda_hold.specs.FirstValue.{value_from}
use Rattle.linda_hold.proofs.asked.Asked.value.Given as goal

-- The first value of those that are left, if none was before, is the first of all.
abbrev pub invariant-loop-pattern : goal.invariant-loop-pattern
invariant-loop-pattern l =
    (value_from l.before (drop l.pattern-index l.pattern-items) ≡ value_from 0 l.pattern-items)
    × (l.before ≡ l.pattern-index)
