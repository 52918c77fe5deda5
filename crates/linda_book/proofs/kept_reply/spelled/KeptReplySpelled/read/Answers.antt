use Rattle.linda_codec.specs.Formats.{no_kind}
use Rattle.linda_codec.proofs.ChoiceLaws.{by_the_first}
use Rattle.linda_book.specs.ReplyFormat as format
use Rattle.linda_book.proofs.kept_reply.spelled.KeptReplySpelled.read.Goals as goal

pub returns-in-len1-up-clause-value : goal.returns-in-len1-up-clause-value
returns-in-len1-up-clause-value c =
    rw (by_the_first (format.reply_kinds c.args.form) no_kind c.args.bytes.now c.in-len1-up.len_at_least) c.read_body.ensures.value

pub returns-in-len1-up-clause-memory : goal.returns-in-len1-up-clause-memory
returns-in-len1-up-clause-memory c =
    rw (by_the_first (format.reply_kinds c.args.form) no_kind c.args.bytes.now c.in-len1-up.len_at_least) c.read_body.ensures.memory
