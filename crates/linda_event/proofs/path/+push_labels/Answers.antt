use Rattle.std.proofs.Common.{sym, ap, ◌∙◌, ◌++◌}
use Rattle.linda_event.proofs.PushLaws.{part_more, part_none, part_after}
use Rattle.linda_event.proofs.ViewLaws.{labels_Choose, labels_Wrap, labels_Nack, labels_more, labels_end, some_now, no_labels}
use Rattle.linda_event.proofs.path.+push_labels.Goals as goal

pub returns-then-is_none : goal.returns-then-is_none
returns-then-is_none t c = no_labels _ _ _ c.if-is_none.ensures

pub loop-number-preserved : goal.loop-number-preserved
loop-number-preserved t c =
    part_more _ _ _ _ _ _ c.in_ok-push_labels-in-Choose.ensures
    (labels_more _ _ _ _ _ c.way_in.ensures c.loop-number-test.true c.member-item.is) c.loop-number.invariant

pub returns-after-loop-number : goal.returns-after-loop-number
returns-after-loop-number t c =
    part_none _ _ _ (labels_end _ _ _ c.loop-number-test.false) c.loop-number.invariant
    ∙ ap (λ ls. c.args.found.now.items ++ ls) (sym (labels_Choose _ _ _ _ c.in-Choose.is c.deref-member-items.ensures.value))

pub returns-in_ok-push_labels-in-Wrap : goal.returns-in_ok-push_labels-in-Wrap
returns-in_ok-push_labels-in-Wrap t c =
    part_after _ _ _ _ _ c.in_ok-push-in-Wrap.ensures.items c.in_ok-push_labels-in-Wrap.ensures
    ∙ ap (λ ls. c.args.found.now.items ++ ls)
    (sym (labels_Wrap _ _ _ _ _ _ (some_now _ _ c.if-is_none.ensures) c.way_in-in-Wrap.ensures c.in-Wrap.is c.deref.ensures))

pub returns-in_ok-push_labels-in-Nack : goal.returns-in_ok-push_labels-in-Nack
returns-in_ok-push_labels-in-Nack t c =
    c.in_ok-push_labels-in-Nack.ensures
    ∙ ap (λ ls. c.args.found.now.items ++ ls) (sym (labels_Nack _ _ _ _ _ _ c.way_in-in-Nack.ensures c.in-Nack.is c.deref-in-Nack.ensures))
