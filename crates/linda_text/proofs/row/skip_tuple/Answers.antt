use Rattle.linda_text.specs.Reading.{after_blanks, atom_at, row_at, tuple_of, tuple_at}
use Rattle.linda_codec.proofs.SkipLaws.{left_made}
use Rattle.linda_text.proofs.row.skip_tuple.Goals as goal

pub returns : goal.returns
unfolding tuple_at
returns c = rw (left_made (row_at atom_at (after_blanks c.args.bytes.now)) tuple_of) c.skip_row.ensures
