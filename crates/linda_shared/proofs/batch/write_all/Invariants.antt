-- Each answer that is left is still to be written.
use Rattle.std.proofs.Common.{◌≡◌, ◌+◌, length, vec_len, vec_capacity}
use Rattle.linda_shared.proofs.batch.write_all.Given as goal

abbrev pub invariant-loop-answered : goal.invariant-loop-answered
invariant-loop-answered g l =
    (vec_len l.answers + length l.served.answers ≡ vec_len l.fn.answers + length l.fn.served.answers)
    × (vec_capacity l.answers ≡ vec_capacity l.fn.answers)
    × (l.served.room ≡ l.fn.served.room)

abbrev pub decreases-loop-answered : goal.decreases-loop-answered
decreases-loop-answered g l = length l.served.answers
