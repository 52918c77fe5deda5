use Rattle.linda_codec.specs.Values as format
use Rattle.linda_codec.proofs.ChoiceLaws.{by_the_first}
use Rattle.linda_codec.proofs.reading.read_pattern.Goals as goal

pub returns-in-len1-up-clause-value : goal.returns-in-len1-up-clause-value
returns-in-len1-up-clause-value c =
    rw (by_the_first format.formal_kinds (format.value_at c.args.form) c.args.bytes.now c.in-len1-up.len_at_least) c.read_pattern_body.ensures.value

pub returns-in-len1-up-clause-memory : goal.returns-in-len1-up-clause-memory
returns-in-len1-up-clause-memory c =
    rw (by_the_first format.formal_kinds (format.value_at c.args.form) c.args.bytes.now c.in-len1-up.len_at_least) c.read_pattern_body.ensures.memory
