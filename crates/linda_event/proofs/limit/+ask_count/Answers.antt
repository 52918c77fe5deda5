use Rattle.std.proofs.Common.{ap}
use Rattle.std.specs.Prelude.{count_by}
use Rattle.linda_event.specs.Limits.{is_ask}
use Rattle.linda_event.proofs.SeekLaws.{sum_more, sum_end, sum_fits}
use Rattle.linda_event.proofs.ViewLaws.{bases_Choose, bases_Wrap, bases_Nack, asks_more, bases_end}
use Rattle.linda_event.proofs.limit.+ask_count.Goals as goal

pub loop-member-preserved : goal.loop-member-preserved
loop-member-preserved t c =
    record {
      sum = sum_more _ _ _ _ _ _ _ _ (asks_more _ _ _ c.loop-member-test.true c.member-item.is)
          c.ask_count.ensures c.saturating_add-count.ensures c.loop-member.invariant.sum;
      fits = sum_fits _ _ _ _ c.saturating_add-count.ensures;
    }

pub returns-after-loop-member : goal.returns-after-loop-member
returns-after-loop-member t c =
    rw (bases_Choose _ _ _ c.in-Choose.is c.deref-member-items.ensures.value)
    (sum_end _ _ _ _ (ap (count_by is_ask) (bases_end _ _ c.loop-member-test.false)) c.loop-member.invariant.fits c.loop-member.invariant.sum)

pub returns-in-Wrap : goal.returns-in-Wrap
returns-in-Wrap t c = rw (bases_Wrap _ _ _ _ c.in-Wrap.is c.deref.ensures) c.ask_count-in-Wrap.ensures

pub returns-in-Nack : goal.returns-in-Nack
returns-in-Nack t c = rw (bases_Nack _ _ _ _ c.in-Nack.is c.deref-in-Nack.ensures) c.ask_count-in-Nack.ensures
