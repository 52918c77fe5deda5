use Rattle.std.proofs.Common.{ap, ◌∙◌, is_some}
use Rattle.linda_rising.specs.Rows.{at}
use Rattle.linda_rising.proofs.BlockLaws.{past_all, block_at}
use Rattle.linda_rising.proofs.blocks.insert.Goals as goal

pub add-requires-clause-past : goal.add-requires-clause-past
add-requires-clause-past g c =
    let blocks = c.args.blocks.now.items in
    let place = c.place_of-place.ensures in
    let is = block_at blocks c.place_of-place.result c.index-then-place-len.result.now place.within c.index-then-place-len.ensures in
    past_all blocks c.args.id c.place_of-place.result c.requires.rising (c.if-place-len.true ∙ c.len-2.ensures ∙ c.args.blocks.now.ok.0)
    (λ q some. c.is_past.ensures c.if-is_past.true q (ap (λ b. is_some (at b.1 q)) is ∙ some))
