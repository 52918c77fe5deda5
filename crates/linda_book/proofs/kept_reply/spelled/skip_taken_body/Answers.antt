use Rattle.std.proofs.Common.{◌∙◌, sym, subst}
use Rattle.linda_codec.specs.Steps.{GivesAlways}
use Rattle.linda_codec.specs.Formats.{number}
use Rattle.linda_codec.specs.Values as value
use Rattle.linda_codec.proofs.SkipLaws.{left_made, left_behind}
use Rattle.linda_book.specs.declared.kept_reply.KeptReply.TheVariants.{Taken}
use Rattle.linda_book.specs.ReplyFormat as format
use Rattle.linda_book.proofs.kept_reply.spelled.skip_taken_body.Goals as goal

pub returns : goal.returns
returns c =
    let first = left_behind number (value.tuple c.args.form) c.args.body.now c.in_ok-_id._id c.in_ok-_id.rest.now c.in_ok-_id.ensures in
    let same = left_made ((format.placed c.args.form).read c.args.body.now) (λ p. Taken p.0 p.1) ∙ first in
    subst (λ l. GivesAlways (λ rest. rest.now) c.skip.result l) (sym same) c.skip.ensures
