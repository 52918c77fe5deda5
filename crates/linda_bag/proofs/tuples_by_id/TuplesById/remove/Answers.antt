use Rattle.std.proofs.Common.{Some, sym, ap, ◌∙◌}
use Rattle.std.specs.FinMap as map
use Rattle.linda_bag.proofs.TuplesLaws.{behind, all_behind, seen_behind, gone_behind}
use Rattle.linda_bag.proofs.tuples_by_id.TuplesById.remove.Goals as goal

pub returns-in_err-tuple-clause-value : goal.returns-in_err-tuple-clause-value
returns-in_err-tuple-clause-value c =
    c.from_residual.ensures
    ∙ ap behind (sym c.in_err-tuple.was ∙ c.remove.ensures.value)
    ∙ seen_behind c.self.inside.by_id c.args.self.now c.self.view_is c.args.id

pub returns-in_err-tuple-clause-removed : goal.returns-in_err-tuple-clause-removed
returns-in_err-tuple-clause-removed c =
    ap all_behind c.remove.ensures.removed
    ∙ gone_behind c.self.inside.by_id c.args.id
    ∙ ap (λ m. map.remove m c.args.id) c.self.view_is

pub returns-clause-value : goal.returns-clause-value
returns-clause-value c =
    ap Some c.into_inner.ensures
    ∙ ap behind (sym c.in_ok-tuple.was ∙ c.remove.ensures.value)
    ∙ seen_behind c.self.inside.by_id c.args.self.now c.self.view_is c.args.id

pub returns-clause-removed : goal.returns-clause-removed
returns-clause-removed c =
    ap all_behind c.remove.ensures.removed
    ∙ gone_behind c.self.inside.by_id c.args.id
    ∙ ap (λ m. map.remove m c.args.id) c.self.view_is
