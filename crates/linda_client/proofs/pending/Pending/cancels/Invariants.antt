use Rattle.std.proofs.Common.{◌≡◌}
use Rattle.std.specs.Prelude.{flat_map}
use Rattle.std.specs.List.{range_with_len}
use Rattle.linda_client.specs.Packets.{cancels_of}
use Rattle.linda_client.proofs.pending.Pending.cancels.Given as goal

-- The Cancels of the tickets so far are there.
abbrev pub invariant-loop-number : goal.invariant-loop-number
invariant-loop-number l = l.packets.items ≡ flat_map (cancels_of l.servers l.spared) (range_with_len l.self-inside.first l.number)
