use Rattle.std.proofs.Common.{sym, subst}
use Rattle.linda_hold.specs.Holds.{IsHeldAt}
use Rattle.linda_hold.proofs.ViewLaws.{held_at, one_each}
use Rattle.linda_hold.proofs.holds.Holds.find.Goals as goal

pub returns-clause-value : goal.returns-clause-value
returns-clause-value c =
    subst
    (IsHeldAt c.args.self.now c.args.request)
    (sym c.number_of.ensures)
    (held_at c.self.inside.by_id c.args.self.now c.self.view_is c.self.invariant.0 c.args.request)

pub returns-clause-one_each : goal.returns-clause-one_each
returns-clause-one_each c = one_each c.self.inside.by_id c.args.self.now c.self.view_is c.self.invariant.0
