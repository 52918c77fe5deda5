use Rattle.std.proofs.Common.{◌≡◌, false, length}
use Rattle.linda_text.specs.Reading.{content_at}
use Rattle.linda_text.proofs.LoopLaws.{with_front}
use Rattle.linda_text.proofs.string.read_content.Given as goal

-- What was read and what is still said are what there is to read.
abbrev pub invariant-loop-content : goal.invariant-loop-content
invariant-loop-content l = with_front l.content.items (content_at false l.rest) ≡ content_at false l.bytes

abbrev pub decreases-loop-content : goal.decreases-loop-content
decreases-loop-content l = length l.rest
