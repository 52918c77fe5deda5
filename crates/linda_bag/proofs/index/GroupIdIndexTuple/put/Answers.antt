use Rattle.std.proofs.Common.{◌≡◌, Option, None, Some, is_some, Result, Ok, Err, Bor, refl, sym, ap, subst, ◌∙◌}
use Rattle.std.specs.Result.{OnErr}
use Rattle.std.specs.Option.{option_copied}
use Rattle.linda_bag.specs.Ids.{has_id, IsOf}
use Rattle.linda_bag.specs.Candidates.{first_of}
use Rattle.linda_bag.specs.FirstFieldIndex.{HasFirstFields}
use Rattle.linda_bag.proofs.NotedLaws.{any_row}
use Rattle.linda_bag.proofs.BareLaws.{no_such}
use Rattle.linda_bag.proofs.KeptLaws.{undone}
use Rattle.linda_bag.proofs.FilingLaws.{same_rows}
use Rattle.linda_bag.proofs.index.GroupIdIndexTuple.put.Goals as goal

copied : {T : Type 0} (o : Option (Bor T)) → is_some (option_copied o) ≡ is_some o
copied None = refl
copied (Some x) = refl

on_err_there : {T E P : Type 0} (r : Result T E) → P → OnErr r P
on_err_there (Ok t) p = tt
on_err_there (Err e) p = p

pub returns-in_err-put-clause-err : goal.returns-in_err-put-clause-err
returns-in_err-put-clause-err c = on_err_there c.from_residual.result (λ rows there known. (
  c.in_err-put.ensures.err rows there known.0,
  subst (HasFirstFields first_of c.args.self.now.first_fields) (sym (same_rows rows c.args.id _ there)) known.1,
))

pub returns-in-Ok-clause-ok : goal.returns-in-Ok-clause-ok
returns-in-Ok-clause-ok c = λ rows there known. (
  c.in_ok-put.ensures.ok rows there known.0,
  c.in-Ok.ensures.ok rows there known.1,
)

pub returns-then-is_none-clause-err : goal.returns-then-is_none-clause-err
returns-then-is_none-clause-err c = λ rows there known.
    let none = no_such _ c.if-is_none.ensures in (
      subst (IsOf c.remove.new.self) (sym (same_rows rows c.args.id _ there))
          (undone (IsOf c.args.self.now.ids) (IsOf c.remove.new.self) rows c.args.id (IsOf c.put.new.self) c.args.new.now c.args.new.now _
          there (there ∙ ap option_copied none) refl c.in_ok-put.ensures.ok c.remove.ensures known.0),
      c.in-Err.ensures.err rows there known.1,
    )

pub returns-else-is_none-clause-err : goal.returns-else-is_none-clause-err
returns-else-is_none-clause-err c = λ rows there known. (
  any_row (has_id c.put.new.self) rows c.args.id (option_copied c.args.old) (Some c.args.new.now)
      (sym (copied c.args.old ∙ c.if-is_none.ensures)) (c.in_ok-put.ensures.ok rows there known.0),
  c.in-Err.ensures.err rows there known.1,
)
