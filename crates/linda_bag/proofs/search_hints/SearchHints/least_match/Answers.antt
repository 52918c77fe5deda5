use Rattle.std.proofs.lemmas.Option.{IfSome_then}
use Rattle.linda_bag.specs.FreeMatch.{IsFreeMatch}
use Rattle.linda_bag.proofs.HintLaws.{IfNone_then, low_enough}
use Rattle.linda_bag.proofs.search_hints.SearchHints.least_match.Goals as goal

pub returns-then-found-gt0-clause-least : goal.returns-then-found-gt0-clause-least
returns-then-found-gt0-clause-least g c =
    let first = c.first_for-first.ensures (g.B.Bag.contents c.args.bag.now) (g.P.IdSet.has c.args.held.now) c.args.next c.requires.0 in
    IfSome_then c.least_match_from-found.result.id c.least_match_from-found.ensures.least (λ id least. λ k below free. least k (first k free) below free)

pub returns-then-found-gt0-clause-none : goal.returns-then-found-gt0-clause-none
returns-then-found-gt0-clause-none g c =
    let first = c.first_for-first.ensures (g.B.Bag.contents c.args.bag.now) (g.P.IdSet.has c.args.held.now) c.args.next c.requires.0 in
    IfNone_then c.least_match_from-found.result.id c.least_match_from-found.ensures.none (λ none. λ k free. none k (first k free) free)

pub returns-then-found-gt0-clause-right : goal.returns-then-found-gt0-clause-right
returns-then-found-gt0-clause-right g c =
    let bag = g.B.Bag.contents c.args.bag.now in
    let passed = g.P.IdSet.has c.args.held.now in
    let first = c.first_for-first.ensures bag passed c.args.next c.requires.0 in
    let found = c.least_match_from-found in (
      c.note.ensures bag passed c.args.next c.below-from.ensures.at_most
          (low_enough found.result.id c.below-from.result c.first_for-first.result
          (IsFreeMatch bag c.args.template.now passed) c.below-from.ensures.id found.ensures.least found.ensures.none first)
          c.requires.0,
      found.ensures.right,
    )

pub returns-else-found-gt0-clause-least : goal.returns-else-found-gt0-clause-least
returns-else-found-gt0-clause-least g c =
    let first = c.first_for-first.ensures (g.B.Bag.contents c.args.bag.now) (g.P.IdSet.has c.args.held.now) c.args.next c.requires.0 in
    IfSome_then c.least_match_from-found.result.id c.least_match_from-found.ensures.least (λ id least. λ k below free. least k (first k free) below free)

pub returns-else-found-gt0-clause-none : goal.returns-else-found-gt0-clause-none
returns-else-found-gt0-clause-none g c =
    let first = c.first_for-first.ensures (g.B.Bag.contents c.args.bag.now) (g.P.IdSet.has c.args.held.now) c.args.next c.requires.0 in
    IfNone_then c.least_match_from-found.result.id c.least_match_from-found.ensures.none (λ none. λ k free. none k (first k free) free)
