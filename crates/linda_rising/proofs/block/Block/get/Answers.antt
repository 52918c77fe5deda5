use Rattle.std.proofs.Common.{◌≡◌, ◌≢◌, ◌<◌, length, Some, subst, sym, ap, ◌∙◌, arith, get_or}
use Rattle.linda_rising.specs.Rows.{at, ids_of, Rises}
use Rattle.std.proofs.lemmas.List.{get_or_default}
use Rattle.linda_rising.proofs.RowLaws.{row_there, not_there, id_there}
use Rattle.linda_rising.proofs.block.Block.get.Goals as goal
use Rattle.linda_rising.proofs.block.Block.get.Goals.{else-place-rows-via-then-place-rows+else-rows-place, else-place-rows-via-else-place-rows}

pub returns-then-rows-place : goal.returns-then-rows-place
returns-then-rows-place g c =
    let rows = c.as_slice-rows.result.now in
    let e = c.index-rows-place-then-rows-place.result in
    let rises : Rises (ids_of rows) = subst (λ items. Rises (ids_of items)) (sym c.as_slice-rows.ensures.value) c.self.invariant in
    let id : e.0 ≡ c.args.id =
    ap (λ x. x.0) (c.index-rows-place-then-rows-place.is ∙ get_or_default rows c.place-place.result e c.index-rows-place.result c.if-place-rows.true)
    ∙ c.if-rows-place.true in
    ap (λ x. Some x.1) (sym c.index-rows-place-then-rows-place.is)
    ∙ sym (row_there rows c.place-place.result e rises c.if-place-rows.true c.index-rows-place-then-rows-place.is)
    ∙ ap (at rows) id
    ∙ ap (λ items. at items c.args.id) c.as_slice-rows.ensures.value
    ∙ ap (λ b. at b.1 c.args.id) c.self.view_is

pub returns : goal.returns
returns g c =
    let rows = c.as_slice-rows.result.now in
    let rises : Rises (ids_of rows) = subst (λ items. Rises (ids_of items)) (sym c.as_slice-rows.ensures.value) c.self.invariant in
    let other : c.place-place.result < length rows → get_or (ids_of rows) c.place-place.result 0 ≢ c.args.id = elim c.else-place-rows.branch [
      | else-place-rows-via-then-place-rows+else-rows-place w ↦ λ within same. w.if-rows-place.false
          (sym (id_there rows c.place-place.result w.index-rows-place.result within) ∙ same)
      | else-place-rows-via-else-place-rows w ↦ λ within same. omega (arith, w.if-place-rows.false)
    ] in
    sym (not_there rows c.args.id c.place-place.result rises c.place-place.ensures other)
    ∙ ap (λ items. at items c.args.id) c.as_slice-rows.ensures.value
    ∙ ap (λ b. at b.1 c.args.id) c.self.view_is
