use Rattle.std.proofs.Common.{◌≡◌, length}
use Rattle.linda_hold.specs.Waits.{is_awaited}
use Rattle.linda_hold.proofs.awaiting.is_answering_one.Given as goal

-- Whether one of those that are left is answered is whether one of all is.
abbrev pub invariant-loop-asked : goal.invariant-loop-asked
invariant-loop-asked l =
    is_awaited l.tuple l.waits ≡ is_awaited l.tuple l.fn.waits

abbrev pub decreases-loop-asked : goal.decreases-loop-asked
decreases-loop-asked l = length l.waits
