use Rattle.std.proofs.Common.{Some, sym, ap, ◌∙◌}
use Rattle.linda_bag.proofs.HintLaws.{IfNone_any}
use Rattle.linda_bag.proofs.TuplesLaws.{got_behind, none_behind}
use Rattle.linda_bag.proofs.tuples_by_id.TuplesById.entry_from.Goals as goal

pub returns-in_err-next-clause-none : goal.returns-in_err-next-clause-none
returns-in_err-next-clause-none c = IfNone_any c.from_residual.result (λ k above.
    none_behind c.self.inside.by_id c.args.self.now c.self.view_is k (c.in_err-next.ensures.none k above))

pub returns-clause-found : goal.returns-clause-found
returns-clause-found c =
    got_behind c.self.inside.by_id c.args.self.now c.self.view_is c.in_ok-next.next c.in_ok-next.tuple.now c.in_ok-next.ensures.found
    ∙ ap Some (sym c.deref.ensures)

pub returns-clause-least : goal.returns-clause-least
returns-clause-least c = λ k above below. none_behind c.self.inside.by_id c.args.self.now c.self.view_is k (c.in_ok-next.ensures.least k above below)
