use Rattle.std.proofs.Common.{◌≡◌, ◌++◌}
use Rattle.linda_client.specs.Packets.{cancels_of}
use Rattle.linda_client.proofs.packet.push_cancelled.Given as goal

-- The Cancels to the servers so far are there.
abbrev pub invariant-loop-server : goal.invariant-loop-server
invariant-loop-server l = l.packets.items ≡ l.initial.packets.items ++ cancels_of l.server l.spared l.ticket
