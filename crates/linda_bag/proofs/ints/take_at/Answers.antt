use Rattle.std.proofs.Common.{Some, None, is_some, ap, ◌∙◌}
use Rattle.std.specs.FinMap as map
use Rattle.linda_map_laws.proofs.MapLaws.{get_same}
use Rattle.linda_bag.proofs.IntLaws.{rewritten, gone, emptied, not_emptied}
use Rattle.linda_bag.proofs.ints.take_at.Goals as goal

pub replace-requires : goal.replace-requires
replace-requires g c = ap (λ m. is_some (map.get m c.args.code)) c.replace-ids.ensures.row ∙ ap is_some (get_same c.args.sets.now c.args.code _)

pub returns-then-is_empty : goal.returns-then-is_empty
returns-then-is_empty g c =
    gone c.args.sets.now c.remove-then-is_empty.new.self c.args.code c.args.id c.replace-ids.result (Some c.args.row.now) None c.replace-ids.ensures.value _
    (c.remove-then-is_empty.ensures.removed ∙ ap (λ m. map.remove m c.args.code) c.replace-ids.ensures.row)
    (emptied c.replace-ids.result c.remove.new.self c.args.id (Some c.args.row.now) None c.is_empty.result
    c.remove.ensures c.is_empty.ensures c.if-is_empty.true)

pub returns-else-is_empty : goal.returns-else-is_empty
returns-else-is_empty g c =
    rewritten c.args.sets.now c.replace.new.self c.args.code c.args.id c.replace-ids.result
    (Some c.args.row.now) None c.replace-ids.ensures.value _ c.remove.new.self
    (c.replace.ensures.row ∙ ap (λ m. map.insert m c.args.code c.remove.new.self) c.replace-ids.ensures.row)
    (not_emptied c.replace-ids.result c.remove.new.self c.args.id (Some c.args.row.now) None
    c.is_empty.result c.remove.ensures c.is_empty.ensures c.if-is_empty.false)
