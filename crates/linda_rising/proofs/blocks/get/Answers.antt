use Rattle.std.proofs.Common.{ap, ◌∙◌, sym}
use Rattle.linda_rising.specs.Rows.{at}
use Rattle.linda_rising.proofs.BlockLaws.{located, block_at}
use Rattle.linda_rising.proofs.blocks.get.Goals as goal

pub returns : goal.returns
returns g c =
    let blocks = c.args.blocks.now.items in
    let place = c.place_of.ensures in
    c.get.ensures
    ∙ ap (λ b. at b.1 c.args.id) (block_at blocks c.place_of.result c.index-block.result.now place.within c.index-block.ensures)
    ∙ sym (located blocks c.args.id c.place_of.result c.requires place)
