use Rattle.std.proofs.Common.{sym, ap, ◌∙◌}
use Rattle.std.specs.Option.{option_copied}
use Rattle.linda_hold.specs.FirstValueIndex.{early_at, if_early}
use Rattle.linda_hold.proofs.PositionLaws.{early_refiled_as}
use Rattle.linda_hold.proofs.first_value_index.remove_early.Goals as goal

pub returns-in-None : goal.returns-in-None
returns-in-None c = λ after none.
    let was = ap (λ k. if_early k c.in-Some.old.now) (sym c.in-None.is ∙ c.later.ensures) ∙ ap (λ o. early_at (option_copied o)) (sym c.in-Some.is) in
    early_refiled_as c.args.early.now c.remove.new.self c.args.id (option_copied c.args.old) after _ _ was (sym none) c.remove.ensures
