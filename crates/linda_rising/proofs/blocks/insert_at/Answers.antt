use Rattle.std.proofs.Common.{ap, ◌∙◌, sym, subst}
use Rattle.std.proofs.lemmas.List.{get_or_default}
use Rattle.linda_rising.specs.Rows.{at, IsRising}
use Rattle.linda_rising.proofs.BlockLaws.{located, block_written, block_at, with_row, set_there}
use Rattle.linda_rising.proofs.blocks.insert_at.Goals as goal

pub insert-requires : goal.insert-requires
insert-requires g c =
    let blocks = c.args.blocks.now.items in
    ap (λ b. at b.1 c.args.id) (block_at blocks c.args.place c.index_mut-block.result.now c.requires.place.within c.index_mut-block.ensures.value)
    ∙ sym (located blocks c.args.id c.args.place c.requires.rising c.requires.place)
    ∙ c.requires.absent

pub returns-in_err-insert-clause-rising : goal.returns-in_err-insert-clause-rising
returns-in_err-insert-clause-rising g c =
    let blocks = c.args.blocks.now.items in
    let is = c.in_err-insert.ensures.err ∙ c.index_mut-block.ensures.value
    ∙ get_or_default blocks c.args.place c.index_mut-block.result.now c.insert.new.self c.requires.place.within in
    subst IsRising (sym (set_there blocks c.args.place c.insert.new.self is)) c.requires.rising

pub returns-clause-ok : goal.returns-clause-ok
returns-clause-ok g c =
    let blocks = c.args.blocks.now.items in
    let new = c.in_ok-insert.ensures in
    (block_written blocks c.args.id c.args.place _ c.insert.new.self c.requires.rising c.requires.place
    (with_row blocks c.args.place c.args.id c.args.row c.index_mut-block.result.now c.insert.new.self
    c.requires.place.within c.index_mut-block.ensures.value new.ok new.from new.above new.below)).0

pub returns-clause-rising : goal.returns-clause-rising
returns-clause-rising g c =
    let blocks = c.args.blocks.now.items in
    let new = c.in_ok-insert.ensures in
    (block_written blocks c.args.id c.args.place _ c.insert.new.self c.requires.rising c.requires.place
    (with_row blocks c.args.place c.args.id c.args.row c.index_mut-block.result.now c.insert.new.self
    c.requires.place.within c.index_mut-block.ensures.value new.ok new.from new.above new.below)).1
