use Rattle.std.proofs.Common.{◌≡◌, ◌+◌, ◌++◌, drop}
use Rattle.std.specs.Prelude.{flat_map}
use Rattle.std.specs.List.{enumerate_from}
use Rattle.linda_client.specs.Packets.{asks_to_all}
use Rattle.linda_client.proofs.pending.Pending.ask_packets.Given as goal

-- The Asks so far, before those of the asks that are left, are all.
abbrev pub invariant-loop-number : goal.invariant-loop-number
invariant-loop-number l =
    l.packets.items ++ flat_map (asks_to_all l.servers) (enumerate_from (l.self-inside.first + l.number) (drop l.number l.ask-items))
    ≡ flat_map (asks_to_all l.servers) (enumerate_from l.self-inside.first l.ask-items)
