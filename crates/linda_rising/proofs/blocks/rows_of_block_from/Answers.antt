use Rattle.std.proofs.Common.{◌≡◌, ◌<◌, ◌+◌, length, ap, ◌∙◌, sym, arith, subst}
use Rattle.std.proofs.lemmas.Bool.Decides.{nat_tests}
use Rattle.linda_rising.specs.Rows.{at, IsFrom}
use Rattle.linda_rising.proofs.BlockLaws.{block_at}
use Rattle.linda_rising.proofs.RunLaws.{run_here, run_next, run_none, no_rows}
use Rattle.linda_rising.proofs.blocks.rows_of_block_from.Goals as goal

pub returns-then-not-is_empty-clause-run : goal.returns-then-not-is_empty-clause-run
returns-then-not-is_empty-clause-run g c =
    let blocks = c.args.blocks.now.items in
    let place = c.place_of-place.ensures in
    let is = block_at blocks c.place_of-place.result c.index-block.result.now place.within c.index-block.ensures in
    let some : 0 < length c.rows_of_block_from-rows.result.now = grind (arith, nat_tests, c.is_empty-2.ensures, c.if-not-is_empty.true) in
    run_here blocks c.requires c.args.id c.place_of-place.result c.rows_of_block_from-rows.result.now c.from_of-next.result
    place c.rows_of_block_from-rows.ensures.run some
    (λ q le. c.rows_of_block_from-rows.ensures.all q le ∙ ap (λ b. at b.1 q) is)
    c.from_of-next.ensures

pub returns-then-place-len-clause-run : goal.returns-then-place-len-clause-run
returns-then-place-len-clause-run g c =
    let blocks = c.args.blocks.now.items in
    let place = c.place_of-place.ensures in
    let is = block_at blocks c.place_of-place.result c.index-block.result.now place.within c.index-block.ensures in
    let within : c.place_of-place.result + 1 < length blocks = omega (arith, c.if-place-len.true, c.len.ensures, c.args.blocks.now.ok.0) in
    let next = block_at blocks _ c.index-block-then-place-len.result.now within c.index-block-then-place-len.ensures in
    let two : c.place_of-place.result + 2 ≡ c.place_of-place.result + 1 + 1 = omega arith in
    let bare : length c.rows_of_block_from-rows.result.now ≡ 0 = grind (arith, nat_tests, c.is_empty-2.ensures, c.if-not-is_empty.false) in
    run_next blocks c.requires c.args.id c.place_of-place.result c.rows_of_block_from-rows-then-place-len.result.now c.from_of-next-then-place-len.result place
    (λ q le. ap (λ b. at b.1 q) (sym is) ∙ sym (c.rows_of_block_from-rows.ensures.all q le) ∙ no_rows c.rows_of_block_from-rows.result.now q bare)
    within c.rows_of_block_from-rows-then-place-len.ensures.run
    (λ q le. c.rows_of_block_from-rows-then-place-len.ensures.all q le ∙ ap (λ b. at b.1 q) next)
    (subst (λ k. IsFrom blocks k c.from_of-next-then-place-len.result) two c.from_of-next-then-place-len.ensures)

pub returns-clause-none : goal.returns-clause-none
returns-clause-none g c =
    let blocks = c.args.blocks.now.items in
    let place = c.place_of-place.ensures in
    let is = block_at blocks c.place_of-place.result c.index-block.result.now place.within c.index-block.ensures in
    let bare : length c.rows_of_block_from-rows.result.now ≡ 0 = grind (arith, nat_tests, c.is_empty-2.ensures, c.if-not-is_empty.false) in
    run_none blocks c.requires c.args.id c.place_of-place.result place
    (λ q le. ap (λ b. at b.1 q) (sym is) ∙ sym (c.rows_of_block_from-rows.ensures.all q le) ∙ no_rows c.rows_of_block_from-rows.result.now q bare)
    (omega (arith, c.if-place-len.false, c.len.ensures, c.args.blocks.now.ok.0))
