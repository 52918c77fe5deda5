use Rattle.std.proofs.Common.{sym, subst}
use Rattle.linda_world.specs.Noted.{AreNoted}
use Rattle.linda_world.proofs.NotedLaws.{none_noted}
use Rattle.linda_world.proofs.deeds.Deeds.new.Goals as goal

pub invariant_of-result : goal.invariant_of-result
invariant_of-result c = subst (AreNoted c.new.result.items 0) (sym c.new-2.ensures) (none_noted c.new.result.items)
