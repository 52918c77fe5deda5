use Rattle.std.proofs.Common.{Some, sym, ap, ◌∙◌}
use Rattle.std.specs.Option.{option_copied}
use Rattle.std.proofs.lemmas.Result.{on_ok_weaker, on_err_weaker}
use Rattle.linda_hold.specs.FirstValueIndex.{early_at, if_early}
use Rattle.linda_hold.proofs.PositionLaws.{early_refiled_as}
use Rattle.linda_hold.proofs.first_value_index.put_early.Goals as goal

pub returns-in_default-clause-ok : goal.returns-in_default-clause-ok
returns-in_default-clause-ok c =
    let was = ap (λ o. early_at (option_copied o)) (sym c.in_default.is) in
    let is = ap (λ k. if_early k c.args.new.now) (sym c.requires) in
    on_ok_weaker c.put.result
    (early_refiled_as c.args.early.now c.put.new.self c.args.id (option_copied c.args.old) (Some c.args.new.now) _ _ was is) c.put.ensures.ok

pub returns-in_default-clause-err : goal.returns-in_default-clause-err
returns-in_default-clause-err c =
    let was = ap (λ o. early_at (option_copied o)) (sym c.in_default.is) in
    on_err_weaker c.put.result
    (early_refiled_as c.args.early.now c.put.new.self c.args.id (option_copied c.args.old) (option_copied c.args.old) _ _ was was) c.put.ensures.err

pub returns-in-Some-later-clause-ok : goal.returns-in-Some-later-clause-ok
returns-in-Some-later-clause-ok c =
    let was = ap (λ k. if_early k c.in-Some.old.now) (sym c.in-Some-later.is ∙ c.later.ensures) ∙ ap (λ o. early_at (option_copied o)) (sym c.in-Some.is) in
    let is = ap (λ k. if_early k c.args.new.now) (sym c.requires) in
    on_ok_weaker c.put-in-Some-later.result
    (early_refiled_as c.args.early.now c.put-in-Some-later.new.self c.args.id (option_copied c.args.old) (Some c.args.new.now) _ _ was is)
    c.put-in-Some-later.ensures.ok

pub returns-in-Some-later-clause-err : goal.returns-in-Some-later-clause-err
returns-in-Some-later-clause-err c =
    let was = ap (λ k. if_early k c.in-Some.old.now) (sym c.in-Some-later.is ∙ c.later.ensures) ∙ ap (λ o. early_at (option_copied o)) (sym c.in-Some.is) in
    on_err_weaker c.put-in-Some-later.result
    (early_refiled_as c.args.early.now c.put-in-Some-later.new.self c.args.id (option_copied c.args.old)
    (option_copied c.args.old) _ _ was was) c.put-in-Some-later.ensures.err

pub returns-in-None-clause-ok : goal.returns-in-None-clause-ok
returns-in-None-clause-ok c =
    let was = ap (λ k. if_early k c.in-Some.old.now) (sym c.in-None.is ∙ c.later.ensures) ∙ ap (λ o. early_at (option_copied o)) (sym c.in-Some.is) in
    let is = ap (λ k. if_early k c.args.new.now) (sym c.requires) in
    on_ok_weaker c.put-in-None.result
    (early_refiled_as c.args.early.now c.put-in-None.new.self c.args.id (option_copied c.args.old) (Some c.args.new.now) _ _ was is)
    c.put-in-None.ensures.ok

pub returns-in-None-clause-err : goal.returns-in-None-clause-err
returns-in-None-clause-err c =
    let was = ap (λ k. if_early k c.in-Some.old.now) (sym c.in-None.is ∙ c.later.ensures) ∙ ap (λ o. early_at (option_copied o)) (sym c.in-Some.is) in
    on_err_weaker c.put-in-None.result
    (early_refiled_as c.args.early.now c.put-in-None.new.self c.args.id (option_copied c.args.old)
    (option_copied c.args.old) _ _ was was) c.put-in-None.ensures.err
