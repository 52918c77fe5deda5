use Rattle.linda_world.proofs.WorldLaws.{joins_on, falls_short, shown_unchanged, unchanged}
use Rattle.linda_world.proofs.world.World.add_client.Goals as goal

pub invariant_of-self : goal.invariant_of-self
invariant_of-self g c = joins_on c.self.inside.scene c.add_client.new.self c.self.inside.spent c.self.inside.spent
    c.args.number c.self.invariant c.if-self.false c.in-Ok.ensures

pub invariant_of-self-in-Err : goal.invariant_of-self-in-Err
invariant_of-self-in-Err g c =
    falls_short c.self.inside.scene c.add_client.new.self c.self.inside.spent c.self.invariant
    (shown_unchanged c.self.inside.scene c.add_client.new.self
    (unchanged c.self.inside.scene c.args.number c.in-Err.field-0 c.add_client.new.self c.in-Err.ensures))
