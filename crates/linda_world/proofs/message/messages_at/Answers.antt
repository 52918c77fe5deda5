use Rattle.std.proofs.Common.{◌∷◌, [], ◌++◌, length, get_or, sym, ap, ◌∙◌, subst, ltb-true}
use Rattle.linda_wire.specs.declared.message.Message.{Message}
use Rattle.linda_world_laws.specs.Steps.{AreMessagesAt}
use Rattle.std.proofs.Common.{take, ◌+◌}
use Rattle.linda_world.proofs.MessageLaws.{next_message}
use Rattle.linda_world.proofs.message.messages_at.Goals as goal

pub loop-k-preserved : goal.loop-k-preserved
loop-k-preserved c =
    let next = next_message c.args.packets.now c.args.server c.args.ks.now c.loop-k.k-index c.loop-k.messages.items
    c.in-Some.packet.now c.in-Message.message c.loop-k.invariant c.loop-k-test.true c.requires
    (ltb-true (get_or c.args.ks.now c.loop-k.k-index 0) (length c.args.packets.now) (sym c.in-Some.ensures.lookup.0))
    c.in-Some.ensures.lookup.1 c.in-Message.is in
    subst (AreMessagesAt c.args.packets.now c.args.server (take (c.loop-k.k-index + 1) c.args.ks.now))
    (sym (c.in_ok-push.ensures.items
    ∙ ap (λ (m : Message). c.loop-k.messages.items ++ (c.in-Some.packet.now.client, m) ∷ []) c.in_ok-try_clone.ensures)) next
