use Rattle.std.proofs.Common.{nat_cmp, sym, ap, ◌∙◌}
use Rattle.std.specs.Option.{option_copied}
use Rattle.std.proofs.lemmas.Result.{on_ok_weaker, on_err_weaker}
use Rattle.linda_bag.specs.Filing.{keyed, placed}
use Rattle.linda_bag.proofs.FilingLaws.{refiled_as}
use Rattle.linda_hold.specs.FirstValue.{later_of}
use Rattle.linda_hold.specs.Group.{HasGroup}
use Rattle.linda_hold.proofs.first_value_index.put_later.Goals as goal

pub returns-in_default-clause-ok : goal.returns-in_default-clause-ok
returns-in_default-clause-ok c =
    let was = ap (λ o. placed later_of (option_copied o)) (sym c.in_default.is) in
    let is = ap (λ k. keyed k c.args.new.now) (sym c.requires) in
    on_ok_weaker c.refile.result (refiled_as nat_cmp HasGroup later_of c.args.later.now c.refile.new.id_indexes _ _ _ _ _ was is) c.refile.ensures.ok

pub returns-in_default-clause-err : goal.returns-in_default-clause-err
returns-in_default-clause-err c =
    let was = ap (λ o. placed later_of (option_copied o)) (sym c.in_default.is) in
    on_err_weaker c.refile.result (refiled_as nat_cmp HasGroup later_of c.args.later.now c.refile.new.id_indexes _ _ _ _ _ was was) c.refile.ensures.err

pub returns-in_default-later-clause-ok : goal.returns-in_default-later-clause-ok
returns-in_default-later-clause-ok c =
    let was = ap (λ k. keyed k c.in-Some.old.now) (sym c.in_default-later.is ∙ c.later.ensures)
    ∙ ap (λ o. placed later_of (option_copied o)) (sym c.in-Some.is) in
    let is = ap (λ k. keyed k c.args.new.now) (sym c.requires) in
    on_ok_weaker c.refile-in_default-later.result
    (refiled_as nat_cmp HasGroup later_of c.args.later.now c.refile-in_default-later.new.id_indexes _ _ _ _ _ was is) c.refile-in_default-later.ensures.ok

pub returns-in_default-later-clause-err : goal.returns-in_default-later-clause-err
returns-in_default-later-clause-err c =
    let was = ap (λ k. keyed k c.in-Some.old.now) (sym c.in_default-later.is ∙ c.later.ensures)
    ∙ ap (λ o. placed later_of (option_copied o)) (sym c.in-Some.is) in
    on_err_weaker c.refile-in_default-later.result
    (refiled_as nat_cmp HasGroup later_of c.args.later.now c.refile-in_default-later.new.id_indexes _ _ _ _ _ was was) c.refile-in_default-later.ensures.err

pub returns-clause-ok : goal.returns-clause-ok
returns-clause-ok c =
    let was = ap (λ k. keyed k c.in-Some.old.now) (sym c.in-Some-later.is ∙ c.later.ensures) ∙ ap (λ o. placed later_of (option_copied o)) (sym c.in-Some.is) in
    let is = ap (λ k. keyed k c.args.new.now) (sym c.requires) in
    on_ok_weaker c.refile-2.result (refiled_as nat_cmp HasGroup later_of c.args.later.now c.refile-2.new.id_indexes _ _ _ _ _ was is) c.refile-2.ensures.ok

pub returns-clause-err : goal.returns-clause-err
returns-clause-err c =
    let was = ap (λ k. keyed k c.in-Some.old.now) (sym c.in-Some-later.is ∙ c.later.ensures) ∙ ap (λ o. placed later_of (option_copied o)) (sym c.in-Some.is) in
    on_err_weaker c.refile-2.result (refiled_as nat_cmp HasGroup later_of c.args.later.now c.refile-2.new.id_indexes _ _ _ _ _ was was) c.refile-2.ensures.err
