use Rattle.std.proofs.Common.{ap, ◌∙◌}
use Rattle.std.specs.Option.{is_some}
use Rattle.linda_hold.specs.Waits.{is_waiting}
use Rattle.linda_hold.proofs.EntryLaws.{waits_where_found}
use Rattle.linda_hold.proofs.waits.Waits.contains.Goals as goal

pub returns : goal.returns
returns c =
    c.is_some.ensures
    ∙ ap is_some c.number_of.ensures
    ∙ waits_where_found c.self.inside.by_arrival.entries c.self.invariant.1.0.0 c.args.request
    ∙ ap (is_waiting c.args.request) c.self.view_is
