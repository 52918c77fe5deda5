use Rattle.std.proofs.Common.{None, Some, is_some, sym, ap}
use Rattle.linda_bag.proofs.IntLaws.{under_int, only_taken, not_there}
use Rattle.linda_bag.proofs.ints.take.Goals as goal

pub returns-in_default : goal.returns-in_default
returns-in_default g c =
    under_int c.args.int.now c.code_of-code.result c.code_of-code.ensures _ _
    (not_there c.args.sets.now c.code_of-code.result c.args.id c.args.row.now None (sym c.in_default.ensures))

pub returns-then-is_only : goal.returns-then-is_only
returns-then-is_only g c =
    under_int c.args.int.now c.code_of-code.result c.code_of-code.ensures _ _
    (only_taken c.args.sets.now c.remove.new.self c.code_of-code.result c.args.id c.in-Some.ids.now
    (Some c.args.row.now) c.in-Some.ensures (c.is_only.ensures c.if-is_only.true) c.remove.ensures.removed)

pub take_at-requires : goal.take_at-requires
take_at-requires g c = ap is_some (sym c.in-Some.ensures)

pub returns : goal.returns
returns g c = under_int c.args.int.now c.code_of-code.result c.code_of-code.ensures _ _ c.take_at.ensures
