use Rattle.std.proofs.Common.{◌∙◌, lit<}
use Rattle.linda_event.proofs.SeekLaws.{deep_in, deep_not_in, deep_below, any_end}
use Rattle.linda_event.proofs.ViewLaws.{leaves_Choose, leaves_Wrap, leaves_Nack, leaves_more, leaves_end}
use Rattle.linda_event.proofs.limit.+is_deep.Goals as goal

pub returns-then-is_deep : goal.returns-then-is_deep
returns-then-is_deep t c =
    let more = leaves_more _ _ _ c.loop-member-test.true c.member-item.is in
    rw (leaves_Choose _ _ _ c.in-Choose.is c.deref-member-items.ensures.value, ← c.loop-member.invariant)
    (deep_in _ _ _ _ _ _ _ _ (lit< tt) more c.saturating_add.ensures c.is_deep.ensures c.if-is_deep.true)

pub loop-member-preserved : goal.loop-member-preserved
loop-member-preserved t c =
    let more = leaves_more _ _ _ c.loop-member-test.true c.member-item.is in
    deep_not_in _ _ _ _ _ _ _ _ (lit< tt) more c.saturating_add.ensures c.is_deep.ensures c.if-is_deep.false ∙ c.loop-member.invariant

pub returns-after-loop-member : goal.returns-after-loop-member
returns-after-loop-member t c =
    rw (leaves_Choose _ _ _ c.in-Choose.is c.deref-member-items.ensures.value, ← c.loop-member.invariant)
    (any_end _ _ (leaves_end _ _ c.loop-member-test.false))

pub returns-in-Wrap : goal.returns-in-Wrap
returns-in-Wrap t c =
    rw (leaves_Wrap _ _ _ _ c.in-Wrap.is c.deref.ensures) (deep_below _ _ _ _ _ _ (lit< tt) c.saturating_add-in-Wrap.ensures c.is_deep-in-Wrap.ensures)

pub returns-in-Nack : goal.returns-in-Nack
returns-in-Nack t c =
    rw (leaves_Nack _ _ _ _ c.in-Nack.is c.deref-in-Nack.ensures) (deep_below _ _ _ _ _ _ (lit< tt) c.saturating_add-in-Nack.ensures c.is_deep-in-Nack.ensures)
