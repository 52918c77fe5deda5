use Rattle.std.proofs.Common.{◌≡◌, map}
use Rattle.linda_world.specs.Scene.{new_server}
use Rattle.linda_world.proofs.scene.servers_of.Given as goal

abbrev pub invariant-loop-node : goal.invariant-loop-node
invariant-loop-node g l = l.servers.items ≡ map new_server (map (λ n. g.N.Node.shown n) l.yielded)
