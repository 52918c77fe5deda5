use Rattle.std.proofs.Common.{ℕ, ◌<◌, get_or}
use Rattle.linda_rising.specs.Rows.{ids_of}
use Rattle.linda_bag.specs.FreeMatch.{IsFreeMatch}
use Rattle.linda_bag.proofs.among.least_in.Given as goal

-- No row before this one has a free match.
abbrev pub invariant-loop-row : goal.invariant-loop-row
invariant-loop-row g l =
    (j : ℕ) → j < l.row-index → IsFreeMatch (g.S.TupleLookup.rows l.tuples) l.template (g.P.IdSet.has l.passed) (get_or (ids_of l.rows) j 0) → ⊥
