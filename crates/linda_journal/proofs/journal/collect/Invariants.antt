use Rattle.std.proofs.Common.{length, drop}
use Rattle.linda_journal.proofs.JournalLaws.{IsReadUpTo}
use Rattle.linda_journal.proofs.journal.collect.Given as goal

abbrev pub invariant-loop-behind : goal.invariant-loop-behind
invariant-loop-behind l = IsReadUpTo l.form (drop l.at l.bytes) l.at l.records.items l.rest

abbrev pub decreases-loop-behind : goal.decreases-loop-behind
decreases-loop-behind l = length l.rest
