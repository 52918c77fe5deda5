use Rattle.std.proofs.Common.{rules}
use Rattle.std.specs.Prelude.{Ok}
use Rattle.linda_world.proofs.WorldLaws.{goes_on, fails}
use Rattle.linda_world.proofs.world.World.step.Goals as goal

pub invariant_of-self : goal.invariant_of-self
invariant_of-self g c = goes_on c.self.inside.scene c.step.new.self c.self.inside.spent c.self.inside.spent c.args.event
    (Ok c.in-Ok.seen) c.self.invariant c.if-self.false c.in-Ok.ensures

pub invariant_of-self-in-Err : goal.invariant_of-self-in-Err
invariant_of-self-in-Err g c =
    fails c.self.inside.scene c.step.new.self c.self.inside.spent c.eq-self-inside.result c.args.event
    c.in-Err.fault c.self.invariant c.if-self.false (λ is. search (rules, is)) c.in-Err.ensures
