use Rattle.std.proofs.Common.{Some, sym, ap, ◌∙◌}
use Rattle.std.specs.Option.{option_copied}
use Rattle.linda_bag.proofs.TuplesLaws.{behind, seen_behind}
use Rattle.linda_bag.proofs.tuples_by_id.TuplesById.get.Goals as goal

pub returns-in_err-tuple : goal.returns-in_err-tuple
returns-in_err-tuple c =
    ap option_copied c.from_residual.ensures
    ∙ ap behind (ap option_copied (sym c.in_err-tuple.was) ∙ c.get.ensures)
    ∙ seen_behind c.self.inside.by_id c.args.self.now c.self.view_is c.args.id

pub returns : goal.returns
returns c =
    ap Some c.deref.ensures
    ∙ ap behind (ap option_copied (sym c.in_ok-tuple.was) ∙ c.get.ensures)
    ∙ seen_behind c.self.inside.by_id c.args.self.now c.self.view_is c.args.id
