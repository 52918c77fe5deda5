use Rattle.std.proofs.Common.{sym, ◌∙◌}
use Rattle.linda_event.specs.Trees.{tree_of}
use Rattle.linda_event.specs.Paths.{leaves}
use Rattle.linda_event.proofs.SeekLaws.{placed_here, found_under, found_later, passed_more, passed_all}
use Rattle.linda_event.proofs.ViewLaws.{leaves_Choose, leaves_Wrap, leaves_Nack, leaves_more, leaves_end}
use Rattle.linda_event.proofs.path.+descent.Goals as goal

pub descend-returns-in-None : goal.descend-returns-in-None
descend-returns-in-None t c =
    let more = leaves_more _ _ _ c.loop-number-test.true c.member-item.is in
    let found = rw c.in-None.is at c.in_ok-enter-in-Choose.ensures in
    rw (leaves_Choose _ _ _ c.in-Choose.is c.deref-member-items.ensures.value, ← c.loop-number.invariant.there, ← c.loop-number.invariant.same)
    (placed_here _ _ _ _ _ _ more found)

pub descend-loop-number-preserved : goal.descend-loop-number-preserved
descend-loop-number-preserved t c =
    let more = leaves_more _ _ _ c.loop-number-test.true c.member-item.is in
    let passed = rw c.in-Some.is at c.in_ok-enter-in-Choose.ensures in
    record {
      there = sym (found_later _ _ _ _ _ more passed.1) ∙ c.loop-number.invariant.there;
      passed = passed_more _ _ _ _ _ _ _ more passed.1 c.loop-number.invariant.passed;
      same = passed.0 ∙ c.loop-number.invariant.same;
    }

pub descend-returns-after-loop-number : goal.descend-returns-after-loop-number
descend-returns-after-loop-number t c = (
  c.loop-number.invariant.same,
  rw (leaves_Choose _ _ _ c.in-Choose.is c.deref-member-items.ensures.value)
      (passed_all _ _ _ _ (leaves_end _ _ c.loop-number-test.false) c.loop-number.invariant.passed),
)

pub descend-returns-in-Wrap : goal.descend-returns-in-Wrap
descend-returns-in-Wrap t c = rw (leaves_Wrap _ _ _ _ c.in-Wrap.is c.deref.ensures) c.enter-in-Wrap.ensures

pub descend-returns-in-Nack : goal.descend-returns-in-Nack
descend-returns-in-Nack t c = rw (leaves_Nack _ _ _ _ c.in-Nack.is c.deref-in-Nack.ensures) c.enter-in-Nack.ensures

pub enter-returns-else-is_some : goal.enter-returns-else-is_some
enter-returns-else-is_some t c =
    found_under c.args.place.now.items _ _ c.args.number c.args.left (leaves (tree_of c.args.member.now)) _
    (sym c.if-is_some.ensures) c.in_ok-push.ensures.items c.in_ok-rest.ensures
