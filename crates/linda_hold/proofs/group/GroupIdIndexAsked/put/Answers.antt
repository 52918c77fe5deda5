use Rattle.std.proofs.Common.{Some, true, false, is_some, Result, Ok, Err, sym, ap, subst, ◌∙◌}
use Rattle.std.specs.FinMap.{contains_key}
use Rattle.std.specs.Result.{OnErr}
use Rattle.std.specs.Option.{option_copied}
use Rattle.linda_bag.specs.FirstFieldIndex.{HasFirstFields}
use Rattle.linda_bag.proofs.FilingLaws.{same_rows}
use Rattle.linda_hold.specs.Group.{if_unkeyed, unkeyed_of, HasNumbers}
use Rattle.linda_bag.proofs.FirstFieldLaws.{unfiled}
use Rattle.linda_hold.specs.FirstValue.{first_of}
use Rattle.linda_hold.proofs.BeginningLaws.{unkeyed_with}
use Rattle.linda_hold.proofs.group.GroupIdIndexAsked.put.Goals as goal

on_err_there : {T E P : Type 0} (r : Result T E) → P → OnErr r P
on_err_there (Ok t) p = tt
on_err_there (Err e) p = p

pub returns-in_err-put-in-Some-clause-err : goal.returns-in_err-put-in-Some-clause-err
returns-in_err-put-in-Some-clause-err c = on_err_there c.from_residual.result (λ rows there known. (
  c.in_err-put-in-Some.ensures.err rows there known.0,
  subst (λ rs. HasNumbers c.args.self.now.unkeyed (unkeyed_of rs)) (sym (same_rows rows c.args.id _ there)) known.1,
))

pub returns-in_err-put_id-in-None-clause-err : goal.returns-in_err-put_id-in-None-clause-err
returns-in_err-put_id-in-None-clause-err c = on_err_there c.from_residual-in_err-put_id-in-None.result (λ rows there known. (
  subst (HasFirstFields first_of c.args.self.now.firsts) (sym (same_rows rows c.args.id _ there)) known.0,
  subst (λ rs. HasNumbers c.put_id.new.ids (unkeyed_of rs)) (sym (same_rows rows c.args.id _ there))
      (λ q. ap (λ m. contains_key m q) c.in_err-put_id-in-None.ensures.err ∙ known.1 q),
))

pub returns-in_ok-put-in-Some-clause-ok : goal.returns-in_ok-put-in-Some-clause-ok
returns-in_ok-put-in-Some-clause-ok c = λ rows there known.
    let first = ap option_copied (sym c.in-Some.is) ∙ c.first.ensures in (
      c.in_ok-put-in-Some.ensures.ok rows there known.0,
      unkeyed_with c.args.self.now.unkeyed c.take_id.new.ids rows c.args.id (Some c.args.new.now) false known.1 c.take_id.ensures
          (ap (λ f. is_some (if_unkeyed f c.args.new.now)) first),
    )

pub returns-in_ok-put_id-in-None-clause-ok : goal.returns-in_ok-put_id-in-None-clause-ok
returns-in_ok-put_id-in-None-clause-ok c = λ rows there known.
    let none = ap option_copied (sym c.in-None.is) ∙ c.first.ensures in (
      unfiled first_of c.remove.new.self rows c.args.id c.args.new.now (sym none) (c.remove.ensures rows there known.0),
      unkeyed_with c.args.self.now.unkeyed c.put_id.new.ids rows c.args.id (Some c.args.new.now) true known.1 c.in_ok-put_id-in-None.ensures.ok
          (ap (λ f. is_some (if_unkeyed f c.args.new.now)) none),
    )
