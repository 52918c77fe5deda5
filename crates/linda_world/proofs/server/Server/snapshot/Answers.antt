use Rattle.std.proofs.Common.{[], refl, sym, subst, append-nil}
use Rattle.std.specs.Prelude.{Ok, Err}
use Rattle.linda_store.specs.declared.node.NodeFault.{NodeFault}
use Rattle.linda_store.specs.declared.node.NodeFault.TheVariants as faults
use Rattle.linda_store.specs.Node.{Snaps}
use Rattle.linda_world_laws.specs.Steps.{Saves}
use Rattle.linda_world.proofs.ServedLaws.{refused_by, sent_served, full_served, down_served}
use Rattle.linda_world.proofs.server.Server.snapshot.Goals as goal

pub returns-in-Ok : goal.returns-in-Ok
returns-in-Ok g c =
    sent_served Saves c.args.server c.args.self.now c.self.inside.deeds (g.N.Node.shown c.self.inside.node) (g.N.Node.shown c.snapshot.new.self) c.self.view_is
    [] [] [] [] c.self.inside.deeds c.served.result c.served.ensures (Ok c.in-Ok.field-0, (c.in-Ok.ensures, (refl, refl)))
    (sym (append-nil c.self.inside.deeds)) refl

pub returns-in-Err-Full : goal.returns-in-Err-Full
returns-in-Err-Full g c =
    let full = subst (λ (f : NodeFault). Snaps {A = Unit {0}} (g.N.Node.shown c.self.inside.node)
    (Err f) (g.N.Node.shown c.snapshot.new.self)) c.in-Err-Full.field-0-is c.in-Err-Full.ensures in
    full_served Saves c.args.server c.args.self.now c.self.inside.deeds (g.N.Node.shown c.self.inside.node) (g.N.Node.shown c.snapshot.new.self) c.self.view_is
    [] [] [] c.served-in-Err-Full.result c.served-in-Err-Full.ensures (refused_by faults.Full, (full, (refl, refl))) refl refl

pub returns-in-Err-Down : goal.returns-in-Err-Down
returns-in-Err-Down g c =
    let down = subst (λ (f : NodeFault). Snaps {A = Unit {0}} (g.N.Node.shown c.self.inside.node)
    (Err f) (g.N.Node.shown c.snapshot.new.self)) c.in-Err-Down.field-0-is c.in-Err-Down.ensures in
    down_served Saves c.args.server c.args.self.now c.self.inside.deeds (g.N.Node.shown c.self.inside.node) (g.N.Node.shown c.snapshot.new.self) c.self.view_is
    [] [] [] (refused_by faults.Down, (down, (refl, refl))) refl
