use Rattle.std.proofs.Common.{length, ◌-◌}
use Rattle.linda_world.specs.Noted.{AreNoted}
use Rattle.linda_world.proofs.deeds.note_all.Given as goal

abbrev pub invariant-loop-noted : goal.invariant-loop-noted
invariant-loop-noted l = AreNoted l.all l.noted l.lasts

abbrev pub decreases-loop-noted : goal.decreases-loop-noted
decreases-loop-noted l = length l.all - l.noted
