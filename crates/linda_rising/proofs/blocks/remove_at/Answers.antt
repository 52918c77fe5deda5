use Rattle.std.proofs.Common.{◌≡◌, ◌<◌, ap, ◌∙◌, sym, subst, arith, set, None}
use Rattle.std.specs.List.{remove}
use Rattle.linda_rising.specs.Rows.{at, all_rows, IsRising, Sets}
use Rattle.linda_rising.proofs.BlockLaws.{located, block_written, block_at, without_row, bare_gone, on_some}
use Rattle.linda_rising.proofs.blocks.remove_at.Goals as goal

pub returns-then-is_bare-clause-value : goal.returns-then-is_bare-clause-value
returns-then-is_bare-clause-value g c =
    let blocks = c.args.blocks.now.items in
    c.remove-row.ensures.value
    ∙ ap (λ b. at b.1 c.args.id) (block_at blocks c.args.place c.index_mut-block.result.now c.requires.place.within c.index_mut-block.ensures.value)
    ∙ sym (located blocks c.args.id c.args.place c.requires.rising c.requires.place)

pub returns-then-is_bare-clause-rows : goal.returns-then-is_bare-clause-rows
returns-then-is_bare-clause-rows g c =
    let blocks = c.args.blocks.now.items in
    let b' = c.remove-row.new.self in
    let gone = bare_gone blocks c.args.place c.args.id c.index_mut-block.result.now b' c.requires.rising c.requires.place
    c.index_mut-block.ensures.value c.remove-row.ensures.rows (sym c.len-is_bare.ensures ∙ c.if-is_bare.true) in
    let items : c.remove.new.self.items ≡ remove (set blocks c.args.place b') c.args.place =
    on_some c.remove.result _
    (c.remove.ensures.variant.1 (subst (λ n. c.args.place < n) (sym c.args.blocks.now.ok.0) c.requires.place.within)) c.remove.ensures.items in
    subst (λ xs. Sets (all_rows blocks) (all_rows xs) c.args.id None) (sym items) gone.0

pub returns-then-is_bare-clause-rising : goal.returns-then-is_bare-clause-rising
returns-then-is_bare-clause-rising g c =
    let blocks = c.args.blocks.now.items in
    let b' = c.remove-row.new.self in
    let gone = bare_gone blocks c.args.place c.args.id c.index_mut-block.result.now b' c.requires.rising c.requires.place
    c.index_mut-block.ensures.value c.remove-row.ensures.rows (sym c.len-is_bare.ensures ∙ c.if-is_bare.true) in
    let items : c.remove.new.self.items ≡ remove (set blocks c.args.place b') c.args.place =
    on_some c.remove.result _
    (c.remove.ensures.variant.1 (subst (λ n. c.args.place < n) (sym c.args.blocks.now.ok.0) c.requires.place.within)) c.remove.ensures.items in
    subst IsRising (sym items) gone.1

pub returns-else-is_bare-clause-value : goal.returns-else-is_bare-clause-value
returns-else-is_bare-clause-value g c =
    let blocks = c.args.blocks.now.items in
    c.remove-row.ensures.value
    ∙ ap (λ b. at b.1 c.args.id) (block_at blocks c.args.place c.index_mut-block.result.now c.requires.place.within c.index_mut-block.ensures.value)
    ∙ sym (located blocks c.args.id c.args.place c.requires.rising c.requires.place)

pub returns-else-is_bare-clause-rows : goal.returns-else-is_bare-clause-rows
returns-else-is_bare-clause-rows g c =
    let blocks = c.args.blocks.now.items in
    (block_written blocks c.args.id c.args.place None c.remove-row.new.self c.requires.rising c.requires.place
    (without_row blocks c.args.place c.args.id c.index_mut-block.result.now c.remove-row.new.self c.requires.place.within
    c.index_mut-block.ensures.value c.remove-row.ensures.rows c.remove-row.ensures.from (omega (arith, c.if-is_bare.false, c.len-is_bare.ensures)))).0

pub returns-else-is_bare-clause-rising : goal.returns-else-is_bare-clause-rising
returns-else-is_bare-clause-rising g c =
    let blocks = c.args.blocks.now.items in
    (block_written blocks c.args.id c.args.place None c.remove-row.new.self c.requires.rising c.requires.place
    (without_row blocks c.args.place c.args.id c.index_mut-block.result.now c.remove-row.new.self c.requires.place.within
    c.index_mut-block.ensures.value c.remove-row.ensures.rows c.remove-row.ensures.from (omega (arith, c.if-is_bare.false, c.len-is_bare.ensures)))).1
