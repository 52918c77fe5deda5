use Rattle.std.proofs.Common.{subst}
use Rattle.linda_hold.specs.Waits.{AreDistinct}
use Rattle.linda_hold.proofs.EntryLaws.{distinct}
use Rattle.linda_hold.proofs.waits.Waits.candidates.Goals as goal

pub returns-clause-distinct : goal.returns-clause-distinct
returns-clause-distinct c = subst AreDistinct c.self.view_is (distinct c.self.inside.by_arrival.entries c.self.invariant.1.0.0)
