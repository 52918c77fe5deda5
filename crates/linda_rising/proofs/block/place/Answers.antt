use Rattle.std.proofs.Common.{ltb, rules, refl}
use Rattle.std.proofs.lemmas.List.Sorted.{IsPartitionPoint-from_clause, IsPartitionedBy-ltb}
use Rattle.linda_rising.proofs.RowLaws.{rows_rise, place_point, place_end, place_last}
use Rattle.linda_rising.proofs.block.place.Goals as goal

pub returns-then-last-id : goal.returns-then-last-id
returns-then-last-id g c =
    let item = c.in-Some.ensures.item in
    place_end c.args.rows.now c.in-Some.last.now c.args.id _ c.requires item.3.0 item.1 c.if-last-id.true refl

pub returns-then-last-id-2 : goal.returns-then-last-id-2
returns-then-last-id-2 g c =
    let item = c.in-Some.ensures.item in
    place_last c.args.rows.now c.in-Some.last.now c.args.id _ c.requires item.3.0 item.1 c.if-last-id-2.true refl

pub returns : goal.returns
returns g c =
    let parted = IsPartitionedBy-ltb (λ row. row.0) c.args.rows.now c.args.id (rows_rise c.args.rows.now c.requires) in
    let point = IsPartitionPoint-from_clause (λ row. ltb row.0 c.args.id) _ _ c.partition_point.ensures.partitioned parted (λ a r q k. search rules) in
    place_point c.args.rows.now c.args.id _ c.partition_point.ensures.bound point
