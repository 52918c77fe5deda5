use Rattle.std.proofs.Common.{◌∙◌, sym, subst}
use Rattle.linda_codec.specs.Steps.{GivesAlways}
use Rattle.linda_codec.specs.Formats.{number, both}
use Rattle.linda_codec.specs.Values as value
use Rattle.linda_codec.proofs.SkipLaws.{left_made, left_behind}
use Rattle.linda_wire.specs.Frames as format
use Rattle.linda_wire.specs.Frames.{spoken}
use Rattle.linda_wire.proofs.reply.framed.skip_entry.Goals as goal

pub returns : goal.returns
returns c make =
    let first = left_behind number (both number (value.tuple spoken)) c.args.body.now c.in_ok-_number._number
    c.in_ok-_number.rest.now c.in_ok-_number.ensures in
    let second = left_behind number (value.tuple spoken) c.in_ok-_number.rest.now c.in_ok-_id._id c.in_ok-_id.rest.now c.in_ok-_id.ensures in
    let same = left_made (format.entry.read c.args.body.now) make ∙ first ∙ second in
    subst (λ l. GivesAlways (λ rest. rest.now) c.skip_tuple.result l) (sym same) c.skip_tuple.ensures
