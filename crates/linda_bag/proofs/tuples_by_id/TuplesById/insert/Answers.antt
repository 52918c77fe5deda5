use Rattle.std.proofs.Common.{Result, Ok, Err, Some, OnErr, sym, ap, subst, ◌∙◌}
use Rattle.std.specs.FinMap as map
use Rattle.linda_bag.specs.Bytes.{bytes_at}
use Rattle.linda_bag.specs.Filing.{Refiles}
use Rattle.linda_bag.proofs.TuplesLaws.{all_behind, got_behind, none_behind, put_behind}
use Rattle.linda_bag.proofs.tuples_by_id.TuplesById.insert.Goals as goal

on_err_there : {T E P : Type 0} (r : Result T E) → P → OnErr r P
on_err_there (Ok t) p = tt
on_err_there (Err e) p = p

pub returns-in_err-put-in-Some-clause-unfiled : goal.returns-in_err-put-in-Some-clause-unfiled
returns-in_err-put-in-Some-clause-unfiled g c =
    let there = got_behind c.self.inside.by_id c.args.self.now c.self.view_is c.args.id c.in-Some.old.now (sym c.in-Some.ensures)
    ∙ ap Some (sym c.deref.ensures) in
    on_err_there c.from_residual.result
    (subst (λ b. Refiles (g.S.IdIndex.has c.args.id_index.now) (g.S.IdIndex.has c.put.new.self) c.args.id b b) (sym there) c.in_err-put-in-Some.ensures.err)

pub returns-in_err-add-in-None-clause-unfiled : goal.returns-in_err-add-in-None-clause-unfiled
returns-in_err-add-in-None-clause-unfiled g c =
    let none = none_behind c.self.inside.by_id c.args.self.now c.self.view_is c.args.id (sym c.in-None.ensures) in
    on_err_there c.from_residual-in_err-add-in-None.result
    (subst (λ b. Refiles (g.S.IdIndex.has c.args.id_index.now) (g.S.IdIndex.has c.add.new.id_index) c.args.id b b)
    (sym none) c.in_err-add-in-None.ensures.unfiled)

pub returns-in_ok-put-in-Some-clause-freed : goal.returns-in_ok-put-in-Some-clause-freed
returns-in_ok-put-in-Some-clause-freed g c =
    let there = got_behind c.self.inside.by_id c.args.self.now c.self.view_is c.args.id c.in-Some.old.now (sym c.in-Some.ensures) in
    c.tuple_len-freed.ensures.exact ∙ ap (λ t. bytes_at (Some t)) c.deref-in-Some-2.ensures ∙ ap bytes_at (sym there)

pub returns-in_ok-put-in-Some-clause-ok : goal.returns-in_ok-put-in-Some-clause-ok
returns-in_ok-put-in-Some-clause-ok g c =
    ap all_behind c.replace.ensures.row
    ∙ put_behind c.self.inside.by_id c.args.id c.args.tuple
    ∙ ap (λ m. map.insert m c.args.id c.args.tuple.value) c.self.view_is

pub returns-in_ok-put-in-Some-clause-filed : goal.returns-in_ok-put-in-Some-clause-filed
returns-in_ok-put-in-Some-clause-filed g c =
    let there = got_behind c.self.inside.by_id c.args.self.now c.self.view_is c.args.id c.in-Some.old.now (sym c.in-Some.ensures)
    ∙ ap Some (sym c.deref.ensures) in
    subst (λ b. Refiles (g.S.IdIndex.has c.args.id_index.now) (g.S.IdIndex.has c.put.new.self) c.args.id b (Some c.args.tuple.value)) (sym there)
    (subst (λ t. Refiles (g.S.IdIndex.has c.args.id_index.now) (g.S.IdIndex.has c.put.new.self) c.args.id
    (Some c.deref.result.now) (Some t)) c.deref-in-Some.ensures c.in_ok-put-in-Some.ensures.ok)

pub returns-in_ok-add-in-None-clause-freed : goal.returns-in_ok-add-in-None-clause-freed
returns-in_ok-add-in-None-clause-freed g c =
    ap bytes_at (sym (none_behind c.self.inside.by_id c.args.self.now c.self.view_is c.args.id (sym c.in-None.ensures)))

pub returns-in_ok-add-in-None-clause-ok : goal.returns-in_ok-add-in-None-clause-ok
returns-in_ok-add-in-None-clause-ok g c =
    ap all_behind c.in_ok-add-in-None.ensures.ok
    ∙ put_behind c.self.inside.by_id c.args.id c.args.tuple
    ∙ ap (λ m. map.insert m c.args.id c.args.tuple.value) c.self.view_is

pub returns-in_ok-add-in-None-clause-filed : goal.returns-in_ok-add-in-None-clause-filed
returns-in_ok-add-in-None-clause-filed g c =
    let none = none_behind c.self.inside.by_id c.args.self.now c.self.view_is c.args.id (sym c.in-None.ensures) in
    subst (λ b. Refiles (g.S.IdIndex.has c.args.id_index.now) (g.S.IdIndex.has c.add.new.id_index) c.args.id b (Some c.args.tuple.value))
    (sym none) c.in_ok-add-in-None.ensures.filed
