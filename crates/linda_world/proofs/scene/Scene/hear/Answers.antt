use Rattle.std.proofs.Common.{◌<◌, [], ◌∷◌, length, slice_get, refl, sym, ap, ◌∙◌, subst, arith}
use Rattle.std.proofs.lemmas.Option.{slice_get_read}
use Rattle.std.proofs.lemmas.List.Elements.{All-nil, All-cons}
use Rattle.linda_world_laws.specs.World.{World}
use Rattle.linda_world_laws.specs.Steps.{HasServed, Takes}
use Rattle.linda_world.specs.Refusal.{refusal_at}
use Rattle.linda_world.proofs.SceneLaws.{done_at, short_at, served_at, shown_at, there_at}
use Rattle.linda_world.proofs.scene.Scene.hear.Goals as goal

pub take-requires : goal.take-requires
take-requires g c =
    let within : c.args.server < length c.self.inside.servers.items = omega (arith, c.if-server-len.false, c.len.ensures) in
    c.servers_stay_sound.ensures c.args.self.now c.requires.reached c.args.server c.index_mut.result.now
    (ap (λ (x : World). slice_get x.servers c.args.server) (sym c.self.view_is)
    ∙ slice_get_read c.self.inside.servers.items (length c.self.inside.servers.items) c.args.server
    c.index_mut.result.now refl within c.index_mut.ensures.value)

pub returns-in-Ok : goal.returns-in-Ok
returns-in-Ok g c =
    let within : c.args.server < length c.self.inside.servers.items = omega (arith, c.if-server-len.false, c.len.ensures) in
    let low : c.args.k < length c.self.inside.packets.items = subst (λ (x : World). c.args.k < length x.packets) (sym c.self.view_is) c.requires.packet in
    done_at (HasServed (Takes c.args.client c.args.message) c.args.server (c.args.k ∷ []))
    (refusal_at c.args.self.now c.args.server) c.args.self.now _ c.in-Ok.told c.asked.result c.asked.ensures
    (there_at c.args.server c.self.inside.servers.items c.self.inside.members c.self.inside.packets.items c.args.self.now c.self.view_is within)
    (served_at (Takes c.args.client c.args.message) c.args.server c.self.inside.servers.items c.self.inside.members
    c.self.inside.packets.items c.take.new.packets.items c.index_mut.result.now c.take.new.self within c.index_mut.ensures.value
    c.args.self.now c.self.view_is (c.args.k ∷ []) c.in-Ok.told c.mark_delivered.new.packets.items
    (All-cons (λ k. k < length c.self.inside.packets.items) c.args.k [] low (All-nil (λ k. k < length c.self.inside.packets.items)))
    c.in-Ok.ensures c.mark_delivered.ensures)

pub returns-in-Err : goal.returns-in-Err
returns-in-Err g c =
    let within : c.args.server < length c.self.inside.servers.items = omega (arith, c.if-server-len.false, c.len.ensures) in
    short_at (HasServed (Takes c.args.client c.args.message) c.args.server (c.args.k ∷ []))
    (refusal_at c.args.self.now c.args.server) c.args.self.now _ c.in-Err.short c.asked-in-Err.result c.asked-in-Err.ensures
    (there_at c.args.server c.self.inside.servers.items c.self.inside.members c.self.inside.packets.items c.args.self.now c.self.view_is within)
    (shown_at (Takes c.args.client c.args.message) c.args.server c.self.inside.servers.items c.self.inside.members
    c.self.inside.packets.items c.take.new.packets.items c.index_mut.result.now c.take.new.self within c.index_mut.ensures.value
    c.args.self.now c.self.view_is c.in-Err.ensures.0 c.in-Err.ensures.1)
