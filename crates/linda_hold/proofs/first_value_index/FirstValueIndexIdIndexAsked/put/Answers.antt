use Rattle.std.proofs.Common.{Some, Result, Ok, Err, nat_cmp, sym, ap, subst, ◌∙◌}
use Rattle.std.specs.Result.{OnErr}
use Rattle.linda_bag.specs.Filing.{IsFiled, keyed}
use Rattle.linda_bag.proofs.FilingLaws.{same_rows}
use Rattle.linda_hold.specs.FirstValue.{later_of}
use Rattle.linda_hold.specs.Group.{HasGroup}
use Rattle.linda_hold.specs.FirstValueIndex.{HasEarly, if_early}
use Rattle.linda_hold.proofs.first_value_index.FirstValueIndexIdIndexAsked.put.Goals as goal

on_err_there : {T E P : Type 0} (r : Result T E) → P → OnErr r P
on_err_there (Ok t) p = tt
on_err_there (Err e) p = p

pub returns-in_err-put_later-in-Some-clause-err : goal.returns-in_err-put_later-in-Some-clause-err
returns-in_err-put_later-in-Some-clause-err c = on_err_there c.from_residual.result (λ rows there known. (
  subst (HasEarly c.args.self.now.early) (sym (same_rows rows c.args.id _ there)) known.0,
  c.in_err-put_later-in-Some.ensures.err rows there known.1,
))

pub returns-in_err-put_early-in-None-clause-err : goal.returns-in_err-put_early-in-None-clause-err
returns-in_err-put_early-in-None-clause-err c = on_err_there c.from_residual-in_err-put_early-in-None.result (λ rows there known. (
  c.in_err-put_early-in-None.ensures.err rows there known.0,
  subst (IsFiled nat_cmp HasGroup later_of c.args.self.now.later) (sym (same_rows rows c.args.id _ there)) known.1,
))

pub returns-in_ok-put_later-in-Some-clause-ok : goal.returns-in_ok-put_later-in-Some-clause-ok
returns-in_ok-put_later-in-Some-clause-ok c = λ rows there known. (
  c.remove_early.ensures (Some c.args.new.now) (ap (λ k. if_early k c.args.new.now) (sym c.later.ensures ∙ c.in-Some.is)) rows there known.0,
  c.in_ok-put_later-in-Some.ensures.ok rows there known.1,
)

pub returns-in_ok-put_early-in-None-clause-ok : goal.returns-in_ok-put_early-in-None-clause-ok
returns-in_ok-put_early-in-None-clause-ok c = λ rows there known. (
  c.in_ok-put_early-in-None.ensures.ok rows there known.0,
  c.remove_later.ensures (Some c.args.new.now) (ap (λ k. keyed k c.args.new.now) (sym c.later.ensures ∙ c.in-None.is)) rows there known.1,
)
