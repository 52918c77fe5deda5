-- The search from 0 on goes through all.
use Rattle.std.proofs.Common.{arith}
use Rattle.std.proofs.lemmas.Option.{IfSome_then}
use Rattle.linda_bag.proofs.HintLaws.{IfNone_then}
use Rattle.linda_bag.proofs.index_bag.IndexBagBag.least_match.Goals as goal

pub returns-clause-least : goal.returns-clause-least
returns-clause-least c = IfSome_then c.least_match_from.result.id c.least_match_from.ensures.least
    (λ id least. λ k below free. least k (omega arith) below free)

pub returns-clause-none : goal.returns-clause-none
returns-clause-none c = IfNone_then c.least_match_from.result.id c.least_match_from.ensures.none (λ none. λ k free. none k (omega arith) free)
