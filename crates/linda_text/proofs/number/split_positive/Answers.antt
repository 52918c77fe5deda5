use Rattle.linda_text.proofs.NumeralLaws.{is_numeral, is_text}
use Rattle.linda_text.proofs.number.split_positive.Goals as goal

pub number_of-requires-clause-digits : goal.number_of-requires-clause-digits
number_of-requires-clause-digits c = rw (c.split_at.ensures.front) (is_numeral _ _ c.in_ok-len.ensures.value)

pub number_of-requires-clause-text : goal.number_of-requires-clause-text
number_of-requires-clause-text c = rw (c.split_at.ensures.front) (is_text _ _ c.in_ok-len.ensures.value)
