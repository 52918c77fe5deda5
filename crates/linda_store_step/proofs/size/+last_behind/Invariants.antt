use Rattle.std.proofs.Common.{length}
use Rattle.linda_store_step.proofs.size.«+last_behind».Given as goal

-- Fewer are left.
abbrev pub decreases-last_behind : goal.decreases-last_behind
decreases-last_behind l = length l.lasts.now
