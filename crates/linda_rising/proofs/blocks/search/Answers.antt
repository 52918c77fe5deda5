use Rattle.std.proofs.Common.{leb, leb-true, leb-false, rules, arith, []}
use Rattle.std.proofs.lemmas.List.Sorted.{IsPartitionPoint-from_clause, IsPartitionedBy-leb}
use Rattle.linda_rising.proofs.BlockLaws.{froms_never_fall}
use Rattle.linda_rising.proofs.blocks.search.Goals as goal

pub returns : goal.returns
returns g c =
    let blocks = c.args.blocks.now.items in
    let begun = c.partition_point-begun.result in
    let parted = IsPartitionedBy-leb (λ b. b.0) blocks c.args.id (froms_never_fall blocks c.requires.rising) in
    let point = IsPartitionPoint-from_clause (λ b. leb b.0 c.args.id) _ _ c.partition_point-begun.ensures.partitioned parted (λ a r q k. search rules) in
    let long = c.args.blocks.now.ok.0 in
    record {
      within = omega (arith, c.saturating_sub.ensures, c.partition_point-begun.ensures.bound, long, c.requires.some);
      begins = λ some. leb-true _ _ (point.0 _ (0, []) (omega arith) (omega (arith, c.saturating_sub.ensures, some)));
      above = λ j less inside. leb-false _ _ (point.1 j (0, []) (omega (arith, c.saturating_sub.ensures, less)) inside);
    }
