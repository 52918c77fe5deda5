use Rattle.std.proofs.Common.{◌++◌, [], refl, ap, sym, ◌∙◌, subst, append-nil}
use Rattle.std.specs.Prelude.{Err}
use Rattle.linda_store.specs.declared.node.NodeFault.{NodeFault}
use Rattle.linda_store.specs.Node.{Closes, node_answer}
use Rattle.linda_world_laws.specs.Steps.{HangsUp}
use Rattle.linda_world.proofs.ServedLaws.{sent_served, down_served}
use Rattle.linda_world.proofs.server.Server.close.Goals as goal

pub returns-in-Ok : goal.returns-in-Ok
returns-in-Ok g c =
    sent_served (HangsUp c.args.client) c.args.server c.args.self.now c.self.inside.deeds
    (g.N.Node.shown c.self.inside.node) (g.N.Node.shown c.close.new.self) c.self.view_is
    c.args.packets.now.items c.append.new.self.items [] c.in-Ok.sends.items c.self.inside.deeds c.served.result c.served.ensures
    (c.in-Ok.ensures, refl) (sym (append-nil c.self.inside.deeds))
    (c.in_ok-append-in-Ok.ensures.items ∙ ap (λ l. c.args.packets.now.items ++ l) c.in_ok-more-in-Ok.ensures)

pub returns-in-Err-Down : goal.returns-in-Err-Down
returns-in-Err-Down g c =
    let down = subst (λ (f : NodeFault). Closes (g.N.Node.shown c.self.inside.node) c.args.client
    (node_answer (Err f)) (g.N.Node.shown c.close.new.self)) c.in-Err-Down.field-0-is c.in-Err-Down.ensures in
    down_served (HangsUp c.args.client) c.args.server c.args.self.now c.self.inside.deeds
    (g.N.Node.shown c.self.inside.node) (g.N.Node.shown c.close.new.self) c.self.view_is
    c.args.packets.now.items c.args.packets.now.items [] (down, refl) refl
