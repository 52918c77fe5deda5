use Rattle.std.proofs.Common.{◌≡◌, ◌++◌}
use Rattle.linda_hold.proofs.holds.to_sorted_vec.Given as goal

-- What was copied, before what is left, is all.
abbrev pub invariant-loop-number : goal.invariant-loop-number
invariant-loop-number l = l.found.items ++ l.number-iterator ≡ l.numbers.keys
