use Rattle.std.proofs.Common.{[], refl, subst}
use Rattle.std.specs.Prelude.{Ok}
use Rattle.linda_store.specs.declared.node.NodeFault.{NodeFault}
use Rattle.linda_store.specs.declared.node.NodeFault.TheVariants as faults
use Rattle.linda_store.specs.Node.{Stops, in_hand}
use Rattle.linda_world_laws.specs.Steps.{Halts}
use Rattle.linda_world.proofs.ServedLaws.{stop_failed, sent_served, down_served}
use Rattle.linda_world.proofs.server.Server.stop.Goals as goal

pub returns-in-Ok : goal.returns-in-Ok
returns-in-Ok g c =
    sent_served (Halts (in_hand c.args.work)) c.args.server c.args.self.now c.self.inside.deeds
    (g.N.Node.shown c.self.inside.node) (g.N.Node.shown c.stop.new.self) c.self.view_is
    [] [] c.in-Ok.added.items [] c.append.new.self c.served.result c.served.ensures (
      Ok c.in-Ok.added,
      (c.in-Ok.ensures, (refl, refl)),
    ) c.in_ok-append-in-Ok.ensures.ok refl

pub returns-in-Err-Down : goal.returns-in-Err-Down
returns-in-Err-Down g c =
    let down = subst (λ (f : NodeFault). Stops (g.N.Node.shown c.self.inside.node) (in_hand c.args.work)
    (stop_failed f) (g.N.Node.shown c.stop.new.self)) c.in-Err-Down.field-0-is c.in-Err-Down.ensures in
    down_served (Halts (in_hand c.args.work)) c.args.server c.args.self.now c.self.inside.deeds
    (g.N.Node.shown c.self.inside.node) (g.N.Node.shown c.stop.new.self) c.self.view_is
    [] [] [] (stop_failed faults.Down, (down, (refl, refl))) refl
