use Rattle.std.proofs.Common.{length, sym, ap, subst, ◌∙◌}
use Rattle.std.proofs.lemmas.Map.Entries.{length-values_of}
use Rattle.linda_hold.specs.Waits.{AreDistinct}
use Rattle.linda_hold.specs.Numbered.{in_order}
use Rattle.linda_hold.proofs.EntryLaws.{distinct}
use Rattle.linda_hold.proofs.NumberedLaws.{as_many}
use Rattle.linda_hold.proofs.waits.Waits.len.Goals as goal

pub returns-clause-count : goal.returns-clause-count
returns-clause-count c =
    c.len.ensures.len
    ∙ sym (as_many c.self.inside.by_arrival.entries c.len.ensures.unique)
    ∙ sym (length-values_of (in_order c.self.inside.by_arrival.entries))
    ∙ ap length c.self.view_is

pub returns-clause-distinct : goal.returns-clause-distinct
returns-clause-distinct c = subst AreDistinct c.self.view_is (distinct c.self.inside.by_arrival.entries c.self.invariant.1.0.0)
