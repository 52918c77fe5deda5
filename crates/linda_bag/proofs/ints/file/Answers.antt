use Rattle.std.proofs.Common.{int_cmp, sym, subst, ◌∙◌}
use Rattle.std.specs.Option.{option_copied}
use Rattle.std.specs.FinMap as map
use Rattle.std.proofs.lemmas.Result.{on_ok_weaker, on_err_weaker}
use Rattle.linda_bag.specs.Filing.{RefilesUnder}
use Rattle.linda_bag.specs.Ids.{IsOf}
use Rattle.linda_bag.specs.Ints.{ids_at}
use Rattle.linda_bag.proofs.BareLaws.{no_such}
use Rattle.linda_bag.proofs.FilingLaws.{kept_under}
use Rattle.linda_bag.proofs.IntLaws.{under_int, made}
use Rattle.linda_bag.proofs.ints.file.Goals as goal

pub returns-then-contains-clause-ok : goal.returns-then-contains-clause-ok
returns-then-contains-clause-ok g c =
    on_ok_weaker c.put_at.result (λ put. under_int c.args.int.now c.code_of-code.result c.code_of-code.ensures _ _ put) c.put_at.ensures.ok

pub returns-then-contains-clause-err : goal.returns-then-contains-clause-err
returns-then-contains-clause-err g c =
    on_err_weaker c.put_at.result (λ kept. under_int c.args.int.now c.code_of-code.result c.code_of-code.ensures _ _ kept) c.put_at.ensures.err

pub returns-clause-ok : goal.returns-clause-ok
returns-clause-ok g c =
    let none = no_such (map.get c.args.sets.now c.code_of-code.result) (sym c.contains.ensures ∙ c.if-contains.false) in
    on_ok_weaker c.insert.result
    (λ is. under_int c.args.int.now c.code_of-code.result c.code_of-code.ensures _ _
    (made c.args.sets.now c.insert.new.self c.code_of-code.result c.args.id (option_copied c.args.old) c.args.new.now none is))
    c.insert.ensures.ok

pub returns-clause-err : goal.returns-clause-err
returns-clause-err g c =
    on_err_weaker c.insert.result
    (λ same. subst (λ m. RefilesUnder int_cmp IsOf (ids_at c.args.sets.now) (ids_at m) c.args.int.now c.args.id (option_copied c.args.old)
    (option_copied c.args.old)) (sym same) (kept_under IsOf int_cmp (ids_at c.args.sets.now) c.args.int.now c.args.id (option_copied c.args.old)))
    c.insert.ensures.err
