use Rattle.std.proofs.Common.{◌≡◌, ◌++◌, map, length}
use Rattle.std.specs.Option.{option_map}
use Rattle.linda_hold.specs.Waits.{longest, readers}
use Rattle.linda_hold.specs.Index.{or_else}
use Rattle.linda_hold.proofs.awaiting.awaiting_among.Given as goal

-- What was found, before what is found among those that are left, is all.
abbrev pub invariant-loop-request : goal.invariant-loop-request
invariant-loop-request l =
    (l.readers.items ++ map (λ w. w.0) (readers l.tuple l.waits)
    ≡ map (λ w. w.0) (readers l.tuple l.fn.waits))
    × (or_else l.longest (option_map (λ w. w.0) (longest l.tuple l.waits))
    ≡ option_map (λ w. w.0) (longest l.tuple l.fn.waits))

abbrev pub decreases-loop-request : goal.decreases-loop-request
decreases-loop-request l = length l.waits
