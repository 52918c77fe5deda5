use Rattle.std.proofs.lemmas.Option.{IfSome_then}
use Rattle.linda_rising.proofs.RunLaws.{IfNone_then}
use Rattle.linda_bag.proofs.TuplesLaws.{none_behind, some_behind}
use Rattle.linda_bag.proofs.tuples_by_id.TuplesById.next_from.Goals as goal

pub returns-clause-found : goal.returns-clause-found
returns-clause-found c =
    IfSome_then c.next_from.result c.next_from.ensures.found (λ next found. some_behind c.self.inside.by_id c.args.self.now c.self.view_is next found)

pub returns-clause-least : goal.returns-clause-least
returns-clause-least c =
    IfSome_then c.next_from.result c.next_from.ensures.least
    (λ next least. λ k above below. none_behind c.self.inside.by_id c.args.self.now c.self.view_is k (least k above below))

pub returns-clause-none : goal.returns-clause-none
returns-clause-none c =
    IfNone_then c.next_from.result c.next_from.ensures.none (λ none. λ k above. none_behind c.self.inside.by_id c.args.self.now c.self.view_is k (none k above))
