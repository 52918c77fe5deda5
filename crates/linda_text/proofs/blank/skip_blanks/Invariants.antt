use Rattle.std.proofs.Common.{◌≡◌, length}
use Rattle.linda_text.specs.Reading.{after_blanks}
use Rattle.linda_text.proofs.blank.skip_blanks.Given as goal

-- After the blanks comes what came after them at first.
abbrev pub invariant-loop-rest : goal.invariant-loop-rest
invariant-loop-rest l = after_blanks l.rest ≡ after_blanks l.bytes

abbrev pub decreases-loop-rest : goal.decreases-loop-rest
decreases-loop-rest l = length l.rest
