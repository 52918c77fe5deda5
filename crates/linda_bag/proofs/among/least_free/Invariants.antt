use Rattle.std.proofs.Common.{◌≡◌, ℕ, ◌<◌, ◌≤◌, ◌-◌, ◌^◌, true}
use Rattle.std.specs.FinMap as map
use Rattle.linda_bag.specs.FreeMatch.{IsFreeMatch}
use Rattle.linda_bag.proofs.among.least_free.Given as goal

-- No id below this one is free, from the first one on.
abbrev pub invariant-loop-part : goal.invariant-loop-part
invariant-loop-part g l =
    (l.from ≤ l.at)
    × ((k : ℕ) → l.from ≤ k → k < l.at → map.contains_key l.ids k ≡ true
    → IsFreeMatch (g.S.TupleLookup.rows l.tuples) l.template (g.P.IdSet.has l.passed) k → ⊥)

abbrev pub decreases-loop-part : goal.decreases-loop-part
decreases-loop-part g l = 2 ^ 64 - l.at
