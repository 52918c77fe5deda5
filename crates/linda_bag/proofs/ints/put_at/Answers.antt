use Rattle.std.proofs.Common.{is_some, ap, ◌∙◌}
use Rattle.std.specs.FinMap as map
use Rattle.std.proofs.lemmas.Result.{on_ok_weaker, on_err_weaker}
use Rattle.linda_map_laws.proofs.MapLaws.{get_same}
use Rattle.linda_bag.specs.Ids.{IsOf}
use Rattle.linda_bag.proofs.FilingLaws.{kept_id_index, set_id_index}
use Rattle.linda_bag.proofs.IntLaws.{rewritten}
use Rattle.linda_bag.proofs.ints.put_at.Goals as goal

pub replace-requires : goal.replace-requires
replace-requires g c = ap (λ m. is_some (map.get m c.args.code)) c.replace-ids.ensures.row ∙ ap is_some (get_same c.args.sets.now c.args.code _)

pub returns-clause-ok : goal.returns-clause-ok
returns-clause-ok g c =
    let is = c.replace.ensures.row ∙ ap (λ m. map.insert m c.args.code c.put-done.new.self) c.replace-ids.ensures.row in
    on_ok_weaker c.put-done.result
    (λ put. rewritten c.args.sets.now c.replace.new.self c.args.code c.args.id c.replace-ids.result
    _ _ c.replace-ids.ensures.value _ c.put-done.new.self is (set_id_index IsOf _ _ _ _ _ put))
    c.put-done.ensures.ok

pub returns-clause-err : goal.returns-clause-err
returns-clause-err g c =
    let is = c.replace.ensures.row ∙ ap (λ m. map.insert m c.args.code c.put-done.new.self) c.replace-ids.ensures.row in
    on_err_weaker c.put-done.result
    (λ kept. rewritten c.args.sets.now c.replace.new.self c.args.code c.args.id c.replace-ids.result
    _ _ c.replace-ids.ensures.value _ c.put-done.new.self is (kept_id_index IsOf _ _ _ _ kept))
    c.put-done.ensures.err
