use Rattle.std.proofs.Common.{◌≡◌, length}
use Rattle.linda_text.specs.Reading.{word_at}
use Rattle.linda_text.proofs.word.skip_word.Given as goal

-- The rest of the word is read from the rest of the bytes as all of it from all of them.
abbrev pub invariant-loop-letters : goal.invariant-loop-letters
invariant-loop-letters l = word_at l.letters l.rest ≡ word_at l.word l.bytes

abbrev pub decreases-loop-letters : goal.decreases-loop-letters
decreases-loop-letters l = length l.letters
