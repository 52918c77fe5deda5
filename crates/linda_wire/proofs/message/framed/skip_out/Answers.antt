use Rattle.std.proofs.Common.{◌∙◌, sym, subst}
use Rattle.linda_codec.specs.Steps.{GivesAlways}
use Rattle.linda_codec.specs.Formats.{number}
use Rattle.linda_codec.specs.Values as value
use Rattle.linda_codec.proofs.SkipLaws.{left_made, left_behind}
use Rattle.linda_wire.specs.Frames as format
use Rattle.linda_wire.specs.Frames.{spoken}
use Rattle.linda_wire.specs.declared.message.Message.TheVariants.{Out}
use Rattle.linda_wire.proofs.message.framed.skip_out.Goals as goal

pub returns : goal.returns
returns c =
    let same = left_made (format.out.read c.args.body.now) (λ p. Out p.0 p.1)
    ∙ left_behind number (value.tuple spoken) c.args.body.now c.in_ok-_n._n c.in_ok-_n.rest.now c.in_ok-_n.ensures in
    subst (λ l. GivesAlways (λ rest. rest.now) c.skip_tuple.result l) (sym same) c.skip_tuple.ensures
