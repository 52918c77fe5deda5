use Rattle.std.proofs.Common.{◌-◌}
use Rattle.linda_journal.specs.declared.limits.TheConstants.{MAX_DEEDS}
use Rattle.linda_journal.proofs.PayloadLaws.{IsCountedTo}
use Rattle.linda_journal.proofs.payload.count_deeds.Given as goal

-- So many deeds are before what is left.
abbrev pub invariant-loop-rest : goal.invariant-loop-rest
invariant-loop-rest l = IsCountedTo l.form l.payload l.count l.rest

abbrev pub decreases-loop-rest : goal.decreases-loop-rest
decreases-loop-rest l = MAX_DEEDS - l.count
