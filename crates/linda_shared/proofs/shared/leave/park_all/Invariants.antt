use Rattle.std.proofs.Common.{◌≡◌, ◌+◌, IfSome}
use Rattle.linda_shared_queue.specs.Seat.{deeds_told}
use Rattle.linda_shared.proofs.shared.leave.park_all.Given as goal

abbrev pub invariant-loop-seat : goal.invariant-loop-seat
invariant-loop-seat g l =
    IfSome l.told (λ told. told + deeds_told l.seat-iterator.rest.items ≡ deeds_told l.fn.seats.items)
