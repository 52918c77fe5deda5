use Rattle.linda_shared.proofs.SeatLaws.{more_told}
use Rattle.linda_shared.proofs.shared.leave.park_all.Goals as goal

pub loop-seat-preserved : goal.loop-seat-preserved
loop-seat-preserved g c =
    more_told c.loop-seat.told c.with_more-told.result c.deeds.result _ c.in-Some.seat _ _
    c.loop-seat.invariant c.in-Some.ensures.steps.0 c.deeds.ensures c.with_more-told.ensures
