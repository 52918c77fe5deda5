use Rattle.linda_wire.specs.declared.message.Message.TheVariants as messages
use Rattle.linda_client.proofs.ListLaws.{mapped_next}
use Rattle.linda_client.proofs.leaves.Leaves.packets.Goals as goal

pub loop-leave-preserved : goal.loop-leave-preserved
loop-leave-preserved c =
    mapped_next (λ p. (p.0, messages.Leave p.1)) c.loop-leave.leave-index c.deref-leave-items.result.now
    (0, 0) _ _ _ c.loop-leave-test.true c.in_ok-push.ensures.items c.loop-leave.invariant
