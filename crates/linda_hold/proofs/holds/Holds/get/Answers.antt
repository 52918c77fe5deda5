use Rattle.std.proofs.Common.{sym, ◌∙◌}
use Rattle.linda_hold.proofs.ViewLaws.{viewed, one_each}
use Rattle.linda_hold.proofs.holds.Holds.get.Goals as goal

pub returns-clause-value : goal.returns-clause-value
returns-clause-value c = c.copied.ensures ∙ c.get.ensures ∙ sym (viewed c.self.inside.by_id c.args.self.now c.self.view_is c.args.id)

pub returns-clause-one_each : goal.returns-clause-one_each
returns-clause-one_each c = one_each c.self.inside.by_id c.args.self.now c.self.view_is c.self.invariant.0
