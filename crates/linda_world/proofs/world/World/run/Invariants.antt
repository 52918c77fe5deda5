use Rattle.std.proofs.Common.{◌≡◌, ◌++◌}
use Rattle.linda_world.specs.World.{Runs}
use Rattle.linda_world.proofs.world.World.run.Given as goal

abbrev pub invariant-loop-event : goal.invariant-loop-event
invariant-loop-event g l = Runs l.fn.self l.yielded l.self × (l.yielded ++ l.event-iterator.rest.items ≡ l.fn.events.items)
