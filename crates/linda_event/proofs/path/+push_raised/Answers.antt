use Rattle.std.proofs.Common.{sym, ap, ◌∙◌, ◌++◌}
use Rattle.linda_event.proofs.PushLaws.{part_more, part_none, part_after, part_on}
use Rattle.linda_event.proofs.ViewLaws.{nacks_Choose, nacks_Wrap, nacks_Nack_on, nacks_Nack_off, nacks_more, nacks_end, some_now}
use Rattle.linda_event.proofs.path.+push_raised.Goals.{then-is_none+in_ok-push-in-Nack, else-is_none}
use Rattle.linda_event.proofs.path.+push_raised.Goals as goal

pub loop-number-preserved : goal.loop-number-preserved
loop-number-preserved t c =
    part_more _ _ _ _ _ _ c.in_ok-push_raised-in-Choose.ensures
    (nacks_more _ _ _ _ _ c.way_in.ensures c.loop-number-test.true c.member-item.is) c.loop-number.invariant

pub returns-after-loop-number : goal.returns-after-loop-number
returns-after-loop-number t c =
    part_none _ _ _ (nacks_end _ _ _ c.loop-number-test.false) c.loop-number.invariant
    ∙ ap (λ ns. c.args.found.now.items ++ ns) (sym (nacks_Choose _ _ _ _ c.in-Choose.is c.deref-member-items.ensures.value))

pub returns-in_ok-push_raised-in-Wrap : goal.returns-in_ok-push_raised-in-Wrap
returns-in_ok-push_raised-in-Wrap t c =
    c.in_ok-push_raised-in-Wrap.ensures
    ∙ ap (λ ns. c.args.found.now.items ++ ns) (sym (nacks_Wrap _ _ _ _ _ _ c.way_in-in-Wrap.ensures c.in-Wrap.is c.deref.ensures))

pub returns-in_ok-push_raised-in-Nack : goal.returns-in_ok-push_raised-in-Nack
returns-in_ok-push_raised-in-Nack t c = elim c.if-is_none.branch [
  | then-is_none+in_ok-push-in-Nack w ↦
      part_after _ _ _ _ _ (ap (λ v. v.items) w.found-is ∙ w.in_ok-push-in-Nack.ensures.items) c.in_ok-push_raised-in-Nack.ensures
      ∙ ap (λ ns. c.args.found.now.items ++ ns)
      (sym (nacks_Nack_off _ _ _ _ _ _ (some_now _ _ w.if-is_none.ensures) c.way_in-in-Nack.ensures c.in-Nack.is c.deref-in-Nack.ensures))
  | else-is_none w ↦
      part_on _ _ _ _ (ap (λ v. v.items) w.found-is) c.in_ok-push_raised-in-Nack.ensures
      ∙ ap (λ ns. c.args.found.now.items ++ ns)
      (sym (nacks_Nack_on _ _ _ _ _ _ (some_now _ _ w.if-is_none.ensures) c.way_in-in-Nack.ensures c.in-Nack.is c.deref-in-Nack.ensures))
]
