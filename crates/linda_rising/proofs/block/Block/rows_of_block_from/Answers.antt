use Rattle.std.proofs.Common.{subst, sym, ap, ◌∙◌}
use Rattle.std.proofs.lemmas.List.{take_rest}
use Rattle.linda_rising.specs.Rows.{at, ids_of, Rises, IsRun}
use Rattle.linda_rising.proofs.RowLaws.{run_is, run_all}
use Rattle.linda_rising.proofs.block.Block.rows_of_block_from.Goals as goal

pub returns-clause-run : goal.returns-clause-run
returns-clause-run g c =
    let rows = c.as_slice-rows.result.now in
    let rises : Rises (ids_of rows) = subst (λ items. Rises (ids_of items)) (sym c.as_slice-rows.ensures.value) c.self.invariant in
    subst (IsRun c.args.id) (sym (take_rest rows c.place.result)) (run_is rows c.args.id c.place.result rises c.place.ensures)

pub returns-clause-all : goal.returns-clause-all
returns-clause-all g c = λ q le.
    let rows = c.as_slice-rows.result.now in
    ap (λ items. at items q) (take_rest rows c.place.result)
    ∙ run_all rows c.args.id c.place.result c.place.ensures q le
    ∙ ap (λ items. at items q) c.as_slice-rows.ensures.value
    ∙ ap (λ b. at b.1 q) c.self.view_is
