use Rattle.linda_text.specs.Reading.{after_blanks, pattern_at, row_at, template_of, template_at}
use Rattle.linda_codec.proofs.SkipLaws.{left_made}
use Rattle.linda_text.proofs.row.skip_template.Goals as goal

pub returns : goal.returns
unfolding template_at
returns c = rw (left_made (row_at pattern_at (after_blanks c.args.bytes.now)) template_of) c.skip_row.ensures
