use Rattle.std.proofs.Common.{◌≡◌, ◌+◌, length}
use Rattle.linda_text.specs.Reading.{digit_count}
use Rattle.linda_text.proofs.number.digit_count.Given as goal

-- The digits counted so far and those still to come; and the bytes.
abbrev pub invariant-loop-rest : goal.invariant-loop-rest
invariant-loop-rest l = (l.count + digit_count l.rest ≡ digit_count l.bytes) × (l.count + length l.rest ≡ length l.bytes)

abbrev pub decreases-loop-rest : goal.decreases-loop-rest
decreases-loop-rest l = length l.rest
