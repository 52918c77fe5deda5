use Rattle.std.proofs.Common.{◌≡◌, take}
use Rattle.linda_tuple.proofs.tuple.copies.Given as goal

-- What was copied so far.
abbrev pub invariant-loop-value : goal.invariant-loop-value
invariant-loop-value g l = l.copies.items ≡ take l.value-index l.values
