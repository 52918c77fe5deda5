use Rattle.std.proofs.Common.{◌≡◌, ◌≤◌, length, take}
use Rattle.linda_store_step.specs.Deeds.{last_in}
use Rattle.linda_store_step.proofs.deeds.last_number.Given as goal

-- The last number is among the deeds that are left.
abbrev pub invariant-loop-left : goal.invariant-loop-left
invariant-loop-left l = (l.left ≤ length l.deeds) × (last_in (take l.left l.deeds) l.client ≡ last_in l.deeds l.client)

abbrev pub decreases-loop-left : goal.decreases-loop-left
decreases-loop-left l = l.left
