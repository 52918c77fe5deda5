use Rattle.std.proofs.Common.{◌≡◌, ◌<◌, ◌≤◌, true, All, length, refl, sym, ap, ◌∙◌, subst, arith}
use Rattle.linda_store_step.specs.History.{comings}
use Rattle.linda_world_laws.specs.World.{World, delivered}
use Rattle.linda_world_laws.specs.Steps.{IsStopped, AreMessagesAt, Halts}
use Rattle.std.specs.List.{list_all}
use Rattle.linda_store_step.specs.declared.size.TheConstants.{MAX_BATCH}
use Rattle.linda_world.specs.Refusal.{is_message_at, refusal_of_stop}
use Rattle.linda_world.proofs.MessageLaws.{as_many, messages_within}
use Rattle.linda_world.proofs.SceneLaws.{done_at, short_at, served_at, shown_at, silent_serves, stop_allowed}
use Rattle.linda_world.proofs.scene.Scene.stop.Goals as goal

pub stop-requires : goal.stop-requires
stop-requires g c =
    let are : AreMessagesAt c.self.inside.packets.items c.args.server c.args.ks.items c.in-Ok.messages.items =
    subst (λ ps. AreMessagesAt ps c.args.server c.args.ks.items c.in-Ok.messages.items) c.deref-3.ensures.value
    (subst (λ ks. AreMessagesAt c.deref-3.result.now c.args.server ks c.in-Ok.messages.items) c.deref-4.ensures.value c.in-Ok.ensures) in
    let many = as_many c.self.inside.packets.items c.args.server c.args.ks.items c.in-Ok.messages.items are in
    omega (arith, many, c.len-2.ensures, c.if-len-gt-MAX_BATCH.false)

pub mark_all_delivered-requires : goal.mark_all_delivered-requires
mark_all_delivered-requires g c =
    let are : AreMessagesAt c.self.inside.packets.items c.args.server c.args.ks.items c.in-Ok.messages.items =
    subst (λ ps. AreMessagesAt ps c.args.server c.args.ks.items c.in-Ok.messages.items) c.deref-3.ensures.value
    (subst (λ ks. AreMessagesAt c.deref-3.result.now c.args.server ks c.in-Ok.messages.items) c.deref-4.ensures.value c.in-Ok.ensures) in
    subst (λ ks. All (λ k. k < length c.self.inside.packets.items) ks) (sym c.deref-in-Ok-stop.ensures.value)
    (messages_within c.self.inside.packets.items c.args.server c.args.ks.items c.in-Ok.messages.items are)

pub returns-in-Ok-stop : goal.returns-in-Ok-stop
returns-in-Ok-stop g c =
    let are : AreMessagesAt c.self.inside.packets.items c.args.server c.args.ks.items c.in-Ok.messages.items =
    subst (λ ps. AreMessagesAt ps c.args.server c.args.ks.items c.in-Ok.messages.items) c.deref-3.ensures.value
    (subst (λ ks. AreMessagesAt c.deref-3.result.now c.args.server ks c.in-Ok.messages.items) c.deref-4.ensures.value c.in-Ok.ensures) in
    let within : c.args.server < length c.self.inside.servers.items = omega (arith, c.if-server-len.false, c.len.ensures) in
    let are_all : list_all (is_message_at c.self.inside.packets.items c.args.server) c.args.ks.items ≡ true =
    ap (list_all (is_message_at c.self.inside.packets.items c.args.server)) (sym c.deref-2.ensures.value)
    ∙ ap (λ ps. list_all (is_message_at ps c.args.server) c.deref-2.result.now) (sym c.deref.ensures.value)
    ∙ sym c.are_messages.ensures ∙ c.if-not-are_messages.false in
    let few : length c.args.ks.items ≤ MAX_BATCH = omega (arith, c.len-2.ensures, c.if-len-gt-MAX_BATCH.false) in
    done_at (IsStopped c.args.server c.args.ks.items) (refusal_of_stop c.args.self.now c.args.server c.args.ks.items)
    c.args.self.now _ c.in-Ok-stop.told c.asked.result c.asked.ensures
    (stop_allowed c.args.server c.args.ks.items c.self.inside.servers.items c.self.inside.members
    c.self.inside.packets.items c.args.self.now c.self.view_is within are_all few) (record {
      messages = c.in-Ok.messages.items;
      in_hand = subst (λ (x : World). AreMessagesAt x.packets c.args.server c.args.ks.items c.in-Ok.messages.items) c.self.view_is are;
      halted = served_at (Halts (comings c.in-Ok.messages.items)) c.args.server c.self.inside.servers.items c.self.inside.members
          c.self.inside.packets.items c.self.inside.packets.items c.index_mut.result.now c.stop.new.self within c.index_mut.ensures.value
          c.args.self.now c.self.view_is c.args.ks.items c.in-Ok-stop.told c.mark_all_delivered.new.packets.items
          (messages_within c.self.inside.packets.items c.args.server c.args.ks.items c.in-Ok.messages.items are)
          (silent_serves (Halts (comings c.in-Ok.messages.items)) c.args.server c.index_mut.result.now
          c.self.inside.packets.items c.stop.new.self c.in-Ok-stop.told c.in-Ok-stop.ensures)
          (c.mark_all_delivered.ensures ∙ ap (λ ks. delivered ks c.self.inside.packets.items) c.deref-in-Ok-stop.ensures.value);
    })

pub returns-in-Err : goal.returns-in-Err
returns-in-Err g c =
    let within : c.args.server < length c.self.inside.servers.items = omega (arith, c.if-server-len.false, c.len.ensures) in
    let are_all : list_all (is_message_at c.self.inside.packets.items c.args.server) c.args.ks.items ≡ true =
    ap (list_all (is_message_at c.self.inside.packets.items c.args.server)) (sym c.deref-2.ensures.value)
    ∙ ap (λ ps. list_all (is_message_at ps c.args.server) c.deref-2.result.now) (sym c.deref.ensures.value)
    ∙ sym c.are_messages.ensures ∙ c.if-not-are_messages.false in
    let few : length c.args.ks.items ≤ MAX_BATCH = omega (arith, c.len-2.ensures, c.if-len-gt-MAX_BATCH.false) in
    short_at (IsStopped c.args.server c.args.ks.items) (refusal_of_stop c.args.self.now c.args.server c.args.ks.items)
    c.args.self.now _ c.in-Err.short c.asked-in-Err.result c.asked-in-Err.ensures
    (stop_allowed c.args.server c.args.ks.items c.self.inside.servers.items c.self.inside.members
    c.self.inside.packets.items c.args.self.now c.self.view_is within are_all few)
    (shown_at (Halts (comings c.in-Ok.messages.items)) c.args.server c.self.inside.servers.items c.self.inside.members
    c.self.inside.packets.items c.self.inside.packets.items c.index_mut.result.now c.stop.new.self within c.index_mut.ensures.value
    c.args.self.now c.self.view_is c.in-Err.ensures.0 refl)
