use Rattle.std.proofs.Common.{◌∙◌}
use Rattle.linda_event.proofs.SeekLaws.{any_end}
use Rattle.linda_event.proofs.ViewLaws.{bases_Choose, bases_Wrap, bases_Nack, bases_end, ready_after, ready_here}
use Rattle.linda_event.proofs.ready.+has_ready_base.Goals as goal

pub returns-then-has_ready_base : goal.returns-then-has_ready_base
returns-then-has_ready_base t c =
    rw (bases_Choose _ _ _ c.in-Choose.is c.deref-member-items.ensures.value, ← c.loop-member.invariant)
    (ready_here _ _ _ _ _ c.loop-member-test.true c.member-item.is c.has_ready_base.ensures c.if-has_ready_base.true)

pub loop-member-preserved : goal.loop-member-preserved
loop-member-preserved t c = ready_after _ _ _ _ _ c.loop-member-test.true c.member-item.is c.has_ready_base.ensures c.if-has_ready_base.false
    ∙ c.loop-member.invariant

pub returns-after-loop-member : goal.returns-after-loop-member
returns-after-loop-member t c =
    rw (bases_Choose _ _ _ c.in-Choose.is c.deref-member-items.ensures.value, ← c.loop-member.invariant) (any_end _ _ (bases_end _ _ c.loop-member-test.false))

pub returns-in-Wrap : goal.returns-in-Wrap
returns-in-Wrap t c = rw (bases_Wrap _ _ _ _ c.in-Wrap.is c.deref.ensures) c.has_ready_base-in-Wrap.ensures

pub returns-in-Nack : goal.returns-in-Nack
returns-in-Nack t c = rw (bases_Nack _ _ _ _ c.in-Nack.is c.deref-in-Nack.ensures) c.has_ready_base-in-Nack.ensures
