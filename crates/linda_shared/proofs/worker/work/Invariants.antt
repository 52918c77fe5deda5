use Rattle.linda_shared.specs.Working.{HasWorked}
use Rattle.linda_shared.proofs.worker.work.Given as goal

abbrev pub invariant-loop : goal.invariant-loop
invariant-loop g l =
    (goal.iterator-loop g).can_next l.iterator' × (goal.iterator-loop g).is_finite l.iterator'
    × HasWorked l.fn.seat l.seat
