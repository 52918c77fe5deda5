use Rattle.std.proofs.Common.{◌∙◌, sym, subst}
use Rattle.linda_codec.specs.Steps.{GivesAlways}
use Rattle.linda_codec.specs.Formats.{number, truth, both}
use Rattle.linda_codec.specs.Values as value
use Rattle.linda_codec.proofs.SkipLaws.{left_made, left_behind}
use Rattle.linda_wire.specs.Frames as format
use Rattle.linda_wire.specs.Frames.{spoken}
use Rattle.linda_wire.specs.declared.message.Message.TheVariants.{Ask}
use Rattle.linda_wire.proofs.message.framed.skip_ask.Goals as goal

pub returns : goal.returns
returns c =
    let first = left_behind number (both truth (value.template spoken)) c.args.body.now c.in_ok-_ticket._ticket
    c.in_ok-_ticket.rest.now c.in_ok-_ticket.ensures in
    let second = left_behind truth (value.template spoken) c.in_ok-_ticket.rest.now c.in_ok-_remove._remove c.in_ok-_remove.rest.now c.in_ok-_remove.ensures in
    let same = left_made (format.ask.read c.args.body.now) (λ p. Ask p.0 p.1.0 p.1.1) ∙ first ∙ second in
    subst (λ l. GivesAlways (λ rest. rest.now) c.skip_template.result l) (sym same) c.skip_template.ensures
