use Rattle.linda_net_pump.proofs.PumpLaws.{IsPumping}
use Rattle.linda_net_pump.proofs.pumping.pump.Given as goal

abbrev pub invariant-loop : goal.invariant-loop
invariant-loop g l =
    IsPumping (g.R.Read.remaining l.initial.reader) (g.R.Read.remaining l.reader)
    (g.I.Intake.taken l.initial.intake) (g.I.Intake.taken l.intake) l.feed l.counter
