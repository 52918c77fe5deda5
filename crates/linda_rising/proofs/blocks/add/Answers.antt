use Rattle.std.proofs.Common.{subst, sym, ap, ◌∙◌, ◌++◌, [], ◌∷◌, Some}
use Rattle.linda_rising.specs.Rows.{all_rows, IsRising, Sets}
use Rattle.linda_rising.proofs.BlockLaws.{block_added}
use Rattle.linda_rising.proofs.blocks.add.Goals as goal

pub returns-clause-ok : goal.returns-clause-ok
returns-clause-ok g c =
    let blocks = c.args.blocks.now.items in
    let items = c.in_ok-push_back.ensures.items ∙ ap (λ b. blocks ++ b ∷ []) c.in_ok-block.ensures in
    subst (λ xs. Sets (all_rows blocks) (all_rows xs) c.args.id (Some c.args.row)) (sym items)
    (block_added blocks c.args.id c.args.row c.requires.rising c.requires.past).0

pub returns-clause-rising : goal.returns-clause-rising
returns-clause-rising g c =
    let blocks = c.args.blocks.now.items in
    let items = c.in_ok-push_back.ensures.items ∙ ap (λ b. blocks ++ b ∷ []) c.in_ok-block.ensures in
    subst IsRising (sym items) (block_added blocks c.args.id c.args.row c.requires.rising c.requires.past).1
