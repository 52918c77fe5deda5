use Rattle.std.proofs.Common.{◌≡◌, None, Some, is_some, sym, ap, subst, ◌∙◌, true≢false}
use Rattle.std.specs.FinMap as map
use Rattle.linda_map_laws.proofs.MapLaws.{get_same, undone}
use Rattle.linda_bag.specs.Filing.{Refiles}
use Rattle.linda_bag.proofs.tuples_by_id.add.Goals as goal

pub returns-in_default-clause-filed : goal.returns-in_default-clause-filed
returns-in_default-clause-filed g c =
    let there = ap (λ m. map.get m c.args.id) c.in_ok-insert.ensures.ok ∙ get_same c.args.by_id.now c.args.id c.args.tuple in
    absurd (true≢false (ap is_some (sym (c.in_default.ensures ∙ there))))

pub returns-in-Ok-clause-filed : goal.returns-in-Ok-clause-filed
returns-in-Ok-clause-filed g c =
    let there = ap (λ m. map.get m c.args.id) c.in_ok-insert.ensures.ok ∙ get_same c.args.by_id.now c.args.id c.args.tuple in
    let kept : c.in-Some.kept.now ≡ c.args.tuple = Rattle.std.proofs.lemmas.Option.same_Some _ _ (c.in-Some.ensures ∙ there) in
    subst (λ t. Refiles (g.S.IdIndex.has c.args.id_index.now) (g.S.IdIndex.has c.put.new.self) c.args.id None (Some t))
    (c.deref.ensures ∙ ap (λ b. b.value) kept) c.in-Ok.ensures.ok

pub returns-in-Err-clause-err : goal.returns-in-Err-clause-err
returns-in-Err-clause-err g c =
    c.remove.ensures.removed
    ∙ ap (λ m. map.remove m c.args.id) c.in_ok-insert.ensures.ok
    ∙ undone c.args.by_id.now c.args.id c.args.tuple c.requires
