use Rattle.std.proofs.Common.{◌≡◌, length}
use Rattle.linda_hold.specs.Waits.{longest}
use Rattle.linda_hold.proofs.awaiting.first_input.Given as goal

-- The first answer among those that are left is the first of all.
abbrev pub invariant-loop-request : goal.invariant-loop-request
invariant-loop-request l =
    longest l.tuple l.waits ≡ longest l.tuple l.fn.waits

abbrev pub decreases-loop-request : goal.decreases-loop-request
decreases-loop-request l = length l.waits
