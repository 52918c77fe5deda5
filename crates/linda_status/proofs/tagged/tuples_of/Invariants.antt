use Rattle.std.proofs.Common.{◌≡◌, ◌^◌, ◌-◌, take}
use Rattle.std.specs.Prelude.{min}
use Rattle.std.specs.List.{sum_by}
use Rattle.linda_status.specs.Tagged.{tuples_if}
use Rattle.linda_status.proofs.tagged.tuples_of.Given as goal

-- So many have it of the rows so far.
abbrev pub invariant-loop-row : goal.invariant-loop-row
invariant-loop-row l = l.total ≡ min (sum_by (tuples_if l.text) (take l.row-index l.rows)) (2 ^ 64 - 1)
