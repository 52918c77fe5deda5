use Rattle.std.proofs.Common.{length}
use Rattle.linda_net_marks.proofs.busy.+run_of.Given as goal

-- The runs that are left are fewer.
abbrev pub decreases-run_of : goal.decreases-run_of
decreases-run_of l = length l.runs.now
