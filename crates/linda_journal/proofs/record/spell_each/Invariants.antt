use Rattle.std.proofs.Common.{length}
use Rattle.linda_journal.proofs.SpellLaws.{AreSpelledTo}
use Rattle.linda_journal.proofs.record.spell_each.Given as goal

-- The first deeds are spelled as whole records, and these are left.
abbrev pub invariant-loop-rest : goal.invariant-loop-rest
invariant-loop-rest l = AreSpelledTo l.form l.deeds l.out.items l.rest

abbrev pub decreases-loop-rest : goal.decreases-loop-rest
decreases-loop-rest l = length l.rest
