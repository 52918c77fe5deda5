use Rattle.std.proofs.Common.{◌≡◌, vec_len, vec_capacity}
use Rattle.linda_shared.proofs.settle.lose_all.Given as goal

abbrev pub invariant-loop-index : goal.invariant-loop-index
invariant-loop-index g l = (vec_len l.answers ≡ vec_len l.fn.answers) × (vec_capacity l.answers ≡ vec_capacity l.fn.answers)
