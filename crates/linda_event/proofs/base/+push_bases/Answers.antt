use Rattle.std.proofs.Common.{rules}
use Rattle.linda_event.specs.declared.event.Event.{the_lemmas}
use Rattle.linda_event.proofs.PushLaws.{part_more, part_none}
use Rattle.linda_event.proofs.ViewLaws.{pushed_base, bases_Choose, bases_Wrap, bases_Nack, bases_more, bases_end}
use Rattle.linda_event.proofs.base.+push_bases.Goals as goal

pub loop-member-preserved : goal.loop-member-preserved
loop-member-preserved t c =
    part_more _ _ _ _ _ _ c.in_ok-push_bases-in-Choose.ensures (bases_more _ _ _ c.loop-member-test.true c.member-item.is) c.loop-member.invariant

pub returns-in_ok-push-in-Input : goal.returns-in_ok-push-in-Input
returns-in_ok-push-in-Input t c = pushed_base _ _ _ _ c.in_ok-push-in-Input.ensures.items (rw c.in-Input.is (search (rules, the_lemmas)))

pub returns-in_ok-push-in-Read : goal.returns-in_ok-push-in-Read
returns-in_ok-push-in-Read t c = pushed_base _ _ _ _ c.in_ok-push-in-Read.ensures.items (rw c.in-Read.is (search (rules, the_lemmas)))

pub returns-in_ok-push-in-Alarm : goal.returns-in_ok-push-in-Alarm
returns-in_ok-push-in-Alarm t c = pushed_base _ _ _ _ c.in_ok-push-in-Alarm.ensures.items (rw c.in-Alarm.is (search (rules, the_lemmas)))

pub returns-in_ok-push-in-Always : goal.returns-in_ok-push-in-Always
returns-in_ok-push-in-Always t c = pushed_base _ _ _ _ c.in_ok-push-in-Always.ensures.items (rw c.in-Always.is (search (rules, the_lemmas)))

pub returns-in_ok-push-in-Never : goal.returns-in_ok-push-in-Never
returns-in_ok-push-in-Never t c = pushed_base _ _ _ _ c.in_ok-push-in-Never.ensures.items (rw c.in-Never.is (search (rules, the_lemmas)))

pub returns-after-loop-member : goal.returns-after-loop-member
returns-after-loop-member t c =
    rw (bases_Choose _ _ _ c.in-Choose.is c.deref-member-items.ensures.value) (part_none _ _ _ (bases_end _ _ c.loop-member-test.false) c.loop-member.invariant)

pub returns-in_ok-push_bases-in-Wrap : goal.returns-in_ok-push_bases-in-Wrap
returns-in_ok-push_bases-in-Wrap t c = rw (bases_Wrap _ _ _ _ c.in-Wrap.is c.deref.ensures) c.in_ok-push_bases-in-Wrap.ensures

pub returns-in_ok-push_bases-in-Nack : goal.returns-in_ok-push_bases-in-Nack
returns-in_ok-push_bases-in-Nack t c = rw (bases_Nack _ _ _ _ c.in-Nack.is c.deref-in-Nack.ensures) c.in_ok-push_bases-in-Nack.ensures
