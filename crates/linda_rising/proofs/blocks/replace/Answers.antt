use Rattle.std.proofs.Common.{◌≤◌, is_some, ap, ◌∙◌, sym, arith, Some}
use Rattle.linda_rising.specs.Rows.{at}
use Rattle.linda_rising.proofs.BlockLaws.{located, block_written, block_begins, block_at, with_row}
use Rattle.linda_rising.proofs.blocks.replace.Goals as goal

pub replace-requires : goal.replace-requires
replace-requires g c =
    let blocks = c.args.blocks.now.items in
    let place = c.place_of-place.ensures in
    ap (λ b. is_some (at b.1 c.args.id)) (block_at blocks c.place_of-place.result c.index_mut-block.result.now place.within c.index_mut-block.ensures.value)
    ∙ ap is_some (sym (located blocks c.args.id c.place_of-place.result c.requires.rising place))
    ∙ c.requires.there

pub returns-clause-value : goal.returns-clause-value
returns-clause-value g c =
    let blocks = c.args.blocks.now.items in
    let place = c.place_of-place.ensures in
    c.replace.ensures.value
    ∙ ap (λ b. at b.1 c.args.id) (block_at blocks c.place_of-place.result c.index_mut-block.result.now place.within c.index_mut-block.ensures.value)
    ∙ sym (located blocks c.args.id c.place_of-place.result c.requires.rising place)

pub returns-clause-rows : goal.returns-clause-rows
returns-clause-rows g c =
    let blocks = c.args.blocks.now.items in
    let place = c.place_of-place.ensures in
    let b = c.index_mut-block.result.now in
    let is = block_at blocks c.place_of-place.result b place.within c.index_mut-block.ensures.value in
    let there = ap is_some (sym (located blocks c.args.id c.place_of-place.result c.requires.rising place)) ∙ c.requires.there in
    let low : c.replace.new.self.0 ≤ c.args.id =
    omega (arith, c.replace.ensures.from, ap (λ x. x.0) is, block_begins blocks c.place_of-place.result c.args.id c.requires.rising place.within there) in
    (block_written blocks c.args.id c.place_of-place.result (Some c.args.row) c.replace.new.self c.requires.rising place
    (with_row blocks c.place_of-place.result c.args.id c.args.row b c.replace.new.self place.within c.index_mut-block.ensures.value
    c.replace.ensures.rows (omega (arith, c.replace.ensures.from)) (λ _. c.replace.ensures.from) low)).0

pub returns-clause-rising : goal.returns-clause-rising
returns-clause-rising g c =
    let blocks = c.args.blocks.now.items in
    let place = c.place_of-place.ensures in
    let b = c.index_mut-block.result.now in
    let is = block_at blocks c.place_of-place.result b place.within c.index_mut-block.ensures.value in
    let there = ap is_some (sym (located blocks c.args.id c.place_of-place.result c.requires.rising place)) ∙ c.requires.there in
    let low : c.replace.new.self.0 ≤ c.args.id =
    omega (arith, c.replace.ensures.from, ap (λ x. x.0) is, block_begins blocks c.place_of-place.result c.args.id c.requires.rising place.within there) in
    (block_written blocks c.args.id c.place_of-place.result (Some c.args.row) c.replace.new.self c.requires.rising place
    (with_row blocks c.place_of-place.result c.args.id c.args.row b c.replace.new.self place.within c.index_mut-block.ensures.value
    c.replace.ensures.rows (omega (arith, c.replace.ensures.from)) (λ _. c.replace.ensures.from) low)).1
