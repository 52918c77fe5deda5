use Rattle.std.proofs.Common.{◌≡◌, ◌++◌, drop}
use Rattle.linda_client.specs.Packets.{leave_packets}
use Rattle.linda_client.proofs.leaves.Leaves.packets.Given as goal

-- The packets so far, before those of the Leaves that are left, are all.
abbrev pub invariant-loop-leave : goal.invariant-loop-leave
invariant-loop-leave l = l.packets.items ++ leave_packets (drop l.leave-index l.leave-items) ≡ leave_packets l.leave-items
