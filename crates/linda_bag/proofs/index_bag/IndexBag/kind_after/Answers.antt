use Rattle.std.proofs.Common.{subst}
use Rattle.std.specs.FinMap.{get}
use Rattle.linda_bag.specs.Candidates.{tag_of, count_of}
use Rattle.linda_bag.specs.Filing.{IsBare}
use Rattle.linda_bag.specs.TagIndex.{with_head}
use Rattle.linda_bag.specs.Ids.{IsCount}
use Rattle.linda_bag.proofs.index_bag.IndexBag.kind_after.Goals as goal

pub returns-in_default-clause-none : goal.returns-in_default-clause-none
returns-in_default-clause-none c = λ tag fields past.
    subst (λ m. IsBare (with_head tag_of count_of tag fields (get m))) c.self.view_is
    (c.in_default.ensures.none (get c.self.inside.tuples) c.self.invariant.0 tag fields past)

pub returns-clause-counted : goal.returns-clause-counted
returns-clause-counted c =
    subst (λ m. IsCount (with_head tag_of count_of c.in-Some.field-0.tag.now c.in-Some.field-0.count (get m)) c.len.result) c.self.view_is
    (c.len.ensures _ (c.in-Some.ensures.found (get c.self.inside.tuples) c.self.invariant.0).0)

pub returns-clause-least : goal.returns-clause-least
returns-clause-least c = λ tag fields past before.
    subst (λ m. IsBare (with_head tag_of count_of tag fields (get m))) c.self.view_is
    (c.in-Some.ensures.least (get c.self.inside.tuples) c.self.invariant.0 tag fields past before)
