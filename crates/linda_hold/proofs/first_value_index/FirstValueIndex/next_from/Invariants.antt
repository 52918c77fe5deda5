use Rattle.linda_bag.specs.Filing.{Rows}
use Rattle.linda_hold.specs.declared.asked.Asked.{Asked}
use Rattle.linda_hold.specs.Arrivals.{IsNext}
use Rattle.linda_hold.specs.FirstValueIndex.{HasPositions, is_met_below}
use Rattle.linda_hold.proofs.first_value_index.FirstValueIndex.next_from.Given as goal

-- What was found is the least of those whose first value is at a position that was passed.
abbrev pub invariant-loop-position : goal.invariant-loop-position
invariant-loop-position l =
    (asked : Rows Asked) → HasPositions l.self asked → IsNext (λ q. is_met_below l.position l.fields (asked q)) l.from l.next
