use Rattle.std.proofs.Common.{length, length-append, ap, ◌∙◌}
use Rattle.linda_event.proofs.SeekLaws.{sum_more, sum_end, sum_fits}
use Rattle.linda_event.proofs.ViewLaws.{bases_Choose, bases_Wrap, bases_Nack, bases_more, bases_end}
use Rattle.linda_event.proofs.limit.+base_count.Goals as goal

pub loop-member-preserved : goal.loop-member-preserved
loop-member-preserved t c =
    let more = bases_more _ _ _ c.loop-member-test.true c.member-item.is in
    record {
      sum = sum_more _ _ _ _ _ _ _ _ (ap length more ∙ length-append _ _) c.base_count.ensures c.saturating_add-count.ensures c.loop-member.invariant.sum;
      fits = sum_fits _ _ _ _ c.saturating_add-count.ensures;
    }

pub returns-after-loop-member : goal.returns-after-loop-member
returns-after-loop-member t c =
    rw (bases_Choose _ _ _ c.in-Choose.is c.deref-member-items.ensures.value)
    (sum_end _ _ _ _ (ap length (bases_end _ _ c.loop-member-test.false)) c.loop-member.invariant.fits c.loop-member.invariant.sum)

pub returns-in-Wrap : goal.returns-in-Wrap
returns-in-Wrap t c = rw (bases_Wrap _ _ _ _ c.in-Wrap.is c.deref.ensures) c.base_count-in-Wrap.ensures

pub returns-in-Nack : goal.returns-in-Nack
returns-in-Nack t c = rw (bases_Nack _ _ _ _ c.in-Nack.is c.deref-in-Nack.ensures) c.base_count-in-Nack.ensures
