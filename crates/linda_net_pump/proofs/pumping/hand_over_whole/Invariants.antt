use Rattle.std.proofs.Common.{length}
use Rattle.linda_net_pump.proofs.PumpLaws.{TakenUpTo}
use Rattle.linda_net_pump.proofs.pumping.hand_over_whole.Given as goal

abbrev pub invariant-loop-found : goal.invariant-loop-found
invariant-loop-found g l =
    TakenUpTo l.initial.feed l.feed (g.I.Intake.taken l.initial.intake) (g.I.Intake.taken l.intake)

abbrev pub decreases-loop-found : goal.decreases-loop-found
decreases-loop-found g l = length l.feed
