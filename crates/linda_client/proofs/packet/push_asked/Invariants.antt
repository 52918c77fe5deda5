use Rattle.std.proofs.Common.{◌≡◌, ◌++◌}
use Rattle.linda_client.specs.Packets.{asks_to_all}
use Rattle.linda_client.proofs.packet.push_asked.Given as goal

-- The servers so far were asks_to_all.
abbrev pub invariant-loop-server : goal.invariant-loop-server
invariant-loop-server l = l.packets.items ≡ l.initial.packets.items ++ asks_to_all l.server (l.ticket, l.ask)
