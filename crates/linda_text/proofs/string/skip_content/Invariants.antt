use Rattle.std.proofs.Common.{◌≡◌, false, length}
use Rattle.linda_text.specs.Reading.{content_at}
use Rattle.linda_codec.specs.Steps.{left_by}
use Rattle.linda_text.proofs.string.skip_content.Given as goal

-- What is left after the bytes that are still to be passed is what is left after all of them.
abbrev pub invariant-loop-said : goal.invariant-loop-said
invariant-loop-said l = left_by (content_at false l.rest) ≡ left_by (content_at false l.bytes)

abbrev pub decreases-loop-said : goal.decreases-loop-said
decreases-loop-said l = length l.rest
