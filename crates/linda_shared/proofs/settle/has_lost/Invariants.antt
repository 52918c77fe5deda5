use Rattle.std.proofs.Common.{◌≡◌, map, length}
use Rattle.linda_shared.specs.Batch.{has_copy, all_true}
use Rattle.linda_shared.proofs.settle.has_lost.Given as goal

abbrev pub invariant-loop-rest : goal.invariant-loop-rest
invariant-loop-rest g l = all_true (map has_copy l.rest) ≡ all_true (map has_copy l.fn.answers)

abbrev pub decreases-loop-rest : goal.decreases-loop-rest
decreases-loop-rest g l = length l.rest
