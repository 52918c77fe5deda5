use Rattle.std.proofs.Common.{◌≡◌, ◌++◌, filter}
use Rattle.linda_status.specs.Tagged.{is_named}
use Rattle.linda_status.proofs.tagged.keep_named.Given as goal

-- The rows so far that are of these texts were kept.
abbrev pub invariant-loop-row : goal.invariant-loop-row
invariant-loop-row l = l.rows.items ≡ l.initial.rows.items ++ filter (is_named l.tags) l.yielded
