use Rattle.std.proofs.Common.{◌≡◌, List, ◌++◌, ap, sym, ◌∙◌, subst, map}
use Rattle.linda_store_state.specs.declared.deed.Deed.{Deed}
use Rattle.std.specs.Prelude.{Err}
use Rattle.linda_store_step.specs.Reported.{reported_deed}
use Rattle.linda_store_step.specs.Deeds.{last_in as last_number}
use Rattle.linda_store.specs.declared.node.NodeFault.{NodeFault}
use Rattle.linda_store.specs.Node.{Node, Handles, node_answer}
use Rattle.linda_world_laws.specs.World.{Server, sent_from}
use Rattle.linda_world_laws.specs.Steps.{Takes}
use Rattle.linda_world.proofs.ServedLaws.{took, full_served, down_served}
use Rattle.linda_world.proofs.server.Server.take.Goals as goal

-- the server of before, whose deeds looked the same when the last number was asked for
was_is : (now old : List Deed) (node : Node) (was : Server) → now ≡ old → (let server : Server = record { deeds = old; node = node } in server) ≡ was
    → (let server : Server = record { deeds = now; node = node } in server) ≡ was
was_is now old node was same is = ap (λ (ds : List Deed). (let server : Server = record { deeds = ds; node = node } in server)) same ∙ is

pub returns-in-Ok : goal.returns-in-Ok
returns-in-Ok g c =
    took c.deeds_are_learned.ensures c.args.server c.args.client c.args.message c.args.self.now c.last_number.new.self (g.N.Node.shown c.self.inside.node)
    (g.N.Node.shown c.handle.new.self)
    (was_is c.last_number.new.self c.self.inside.deeds (g.N.Node.shown c.self.inside.node) c.args.self.now c.in_ok-last.ensures.same c.self.view_is)
    c.args.packets.now.items c.append_with.new.packets.items c.in-Ok.sends.items c.in_ok-last.last
    c.reported_deed-deed.result c.append_with.new.self c.served.result c.served.ensures c.requires c.in-Ok.ensures
    (c.in_ok-last.ensures.last ∙ ap (λ ds. last_number ds c.args.client) (sym c.in_ok-last.ensures.same))
    (c.reported_deed-deed.ensures.deed ∙ ap (reported_deed c.args.client c.args.message c.in_ok-last.last) c.deref.ensures.value)
    c.in_ok-append_with-in-Ok.ensures.one
    (c.in_ok-append_with-in-Ok.ensures.ok ∙ ap (λ l. c.args.packets.now.items ++ l) c.in_ok-more-in-Ok.ensures)

pub returns-in-Err-Full : goal.returns-in-Err-Full
returns-in-Err-Full g c =
    let full = subst (λ (f : NodeFault). Handles (g.N.Node.shown c.self.inside.node) c.args.client c.args.message
    (node_answer (Err f)) (g.N.Node.shown c.handle.new.self)) c.in-Err-Full.field-0-is c.in-Err-Full.ensures in
    full_served (Takes c.args.client c.args.message) c.args.server c.args.self.now c.last_number.new.self (g.N.Node.shown c.self.inside.node)
    (g.N.Node.shown c.handle.new.self)
    (was_is c.last_number.new.self c.self.inside.deeds (g.N.Node.shown c.self.inside.node) c.args.self.now c.in_ok-last.ensures.same c.self.view_is)
    c.args.packets.now.items c.append.new.self.items full.0 c.served-in-Err-Full.result c.served-in-Err-Full.ensures full.1 full.1.1
    (c.in_ok-append-in-Err-Full.ensures.items
    ∙ ap (λ l. c.args.packets.now.items ++ l) (c.in_ok-more-in-Err-Full.ensures
    ∙ ap (map (sent_from c.args.server)) c.in_ok-refuse_full-in-Err-Full.ensures))

pub returns-in-Err-Down : goal.returns-in-Err-Down
returns-in-Err-Down g c =
    let down = subst (λ (f : NodeFault). Handles (g.N.Node.shown c.self.inside.node) c.args.client c.args.message
    (node_answer (Err f)) (g.N.Node.shown c.handle.new.self)) c.in-Err-Down.field-0-is c.in-Err-Down.ensures in
    down_served (Takes c.args.client c.args.message) c.args.server c.args.self.now c.last_number.new.self (g.N.Node.shown c.self.inside.node)
    (g.N.Node.shown c.handle.new.self)
    (was_is c.last_number.new.self c.self.inside.deeds (g.N.Node.shown c.self.inside.node) c.args.self.now c.in_ok-last.ensures.same c.self.view_is)
    c.args.packets.now.items c.args.packets.now.items down.0 down.1 down.1.1
