use Rattle.std.proofs.Common.{◌≡◌, ◌≤◌, false, length}
use Rattle.linda_tuple.specs.declared.limits.TheConstants.{MAX_TEXT}
use Rattle.linda_text.specs.Reading.{content_at, made}
use Rattle.linda_text.proofs.ContentLaws.{counted}
use Rattle.linda_text.proofs.string.measure.Given as goal

-- What was counted and what is still said are what there is to count.
abbrev pub invariant-loop-said : goal.invariant-loop-said
invariant-loop-said l = record {
  said : counted l.count (content_at false l.rest) ≡ made length (content_at false l.bytes);
  few : l.count ≤ MAX_TEXT;
  left : length l.rest ≤ length l.bytes;
}

abbrev pub decreases-loop-said : goal.decreases-loop-said
decreases-loop-said l = length l.rest
