use Rattle.std.proofs.Common.{ap}
use Rattle.std.specs.FinMap.{get}
use Rattle.std.proofs.lemmas.Option.{IfSome_then}
use Rattle.linda_bag.proofs.FreeMatchLaws.{among_found}
use Rattle.linda_bag.proofs.HintLaws.{IfNone_then}
use Rattle.linda_bag.proofs.index_bag.IndexBagBag.least_match_from.Goals as goal

pub returns-clause-least : goal.returns-clause-least
returns-clause-least g c =
    IfSome_then c.least_among.result.id (rw c.self.view_is at c.least_among.ensures.least) (λ id least. λ k from below free.
    least k from below
    (among_found c.args.template.now (get c.self.inside.tuples) c.args.self.now (g.P.IdSet.has c.args.passed.now)
    (λ q. ap (λ m. get m q) c.self.view_is)
    _ (c.candidates-ids.ensures (get c.self.inside.tuples) c.self.invariant.0) k free)
    free)

pub returns-clause-none : goal.returns-clause-none
returns-clause-none g c =
    IfNone_then c.least_among.result.id (rw c.self.view_is at c.least_among.ensures.none) (λ none. λ k from free.
    none k from
    (among_found c.args.template.now (get c.self.inside.tuples) c.args.self.now (g.P.IdSet.has c.args.passed.now)
    (λ q. ap (λ m. get m q) c.self.view_is)
    _ (c.candidates-ids.ensures (get c.self.inside.tuples) c.self.invariant.0) k free)
    free)
