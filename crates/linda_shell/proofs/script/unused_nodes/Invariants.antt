use Rattle.std.proofs.Common.{◌≡◌, All, length, map}
use Rattle.linda_world_laws.specs.Reached.{IsUnused}
use Rattle.linda_server.specs.Node as server
use Rattle.linda_shell.proofs.script.unused_nodes.Given as goal

-- so many servers were made, and none of them was used
abbrev pub invariant-loop : goal.invariant-loop
invariant-loop l =
    (length l.nodes.items ≡ l.counter)
    × All IsUnused (map (λ node. server.shown node.before.value node.store node.down node.lost.items) l.nodes.items)
