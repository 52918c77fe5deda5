use Rattle.std.proofs.Common.{◌≡◌, ◌≢◌, ◌<◌, ◌==◌, if◌then◌else◌, None, length, subst, sym, ap, ◌∙◌, arith, get_or}
use Rattle.std.specs.List.{remove}
use Rattle.std.proofs.lemmas.List.{get_or_default}
use Rattle.linda_rising.specs.Rows.{at, ids_of, IsPlace, Rises, Sets}
use Rattle.linda_rising.proofs.IdLaws.{rises_remove}
use Rattle.linda_rising.proofs.RowLaws.{ids_remove, sets_remove, row_there, not_there, id_there, sets_none, length_ids}
use Rattle.linda_rising.proofs.block.Block.remove.Goals as goal
use Rattle.linda_rising.proofs.block.Block.remove.Goals.{else-place-len-via-then-place-len+else-index-id, else-place-len-via-else-place-len}

pub invariant_of-self : goal.invariant_of-self
invariant_of-self g c =
    let rows = c.self.inside.rows.items in
    subst Rises (sym (ap ids_of (c.trim.ensures ∙ c.remove-row.ensures.items) ∙ ids_remove rows c.place-place.result))
    (rises_remove (ids_of rows) c.place-place.result c.self.invariant
    (omega (arith, length_ids rows, c.if-place-len.true, c.len.ensures, c.self.inside.rows.ok.0)))

pub returns-then-index-id-clause-value : goal.returns-then-index-id-clause-value
returns-then-index-id-clause-value g c =
    let rows = c.self.inside.rows.items in
    let within : c.place-place.result < length rows = omega (arith, c.if-place-len.true, c.len.ensures, c.self.inside.rows.ok.0) in
    let e = c.remove-row.result in
    let id : e.0 ≡ c.args.id =
    ap (λ x. x.0) (c.remove-row.ensures.value ∙ get_or_default rows c.place-place.result e c.index.result.now within ∙ sym c.index.ensures)
    ∙ c.if-index-id.true in
    sym (row_there rows c.place-place.result e c.self.invariant within c.remove-row.ensures.value)
    ∙ ap (at rows) id
    ∙ ap (λ b. at b.1 c.args.id) c.self.view_is

pub returns-then-index-id-clause-rows : goal.returns-then-index-id-clause-rows
returns-then-index-id-clause-rows g c = λ q.
    let rows = c.self.inside.rows.items in
    let within : c.place-place.result < length rows = omega (arith, c.if-place-len.true, c.len.ensures, c.self.inside.rows.ok.0) in
    let e = c.remove-row.result in
    let id : e.0 ≡ c.args.id =
    ap (λ x. x.0) (c.remove-row.ensures.value ∙ get_or_default rows c.place-place.result e c.index.result.now within ∙ sym c.index.ensures)
    ∙ c.if-index-id.true in
    ap (λ items. at items q) (c.trim.ensures ∙ c.remove-row.ensures.items)
    ∙ subst (λ k. Sets rows (remove rows c.place-place.result) k None) id
    (sets_remove rows c.place-place.result e c.self.invariant within c.remove-row.ensures.value) q
    ∙ ap (λ b. if q == c.args.id then None else at b.1 q) c.self.view_is

pub returns-clause-value : goal.returns-clause-value
returns-clause-value g c =
    let rows = c.self.inside.rows.items in
    let place = subst (λ items. IsPlace (ids_of items) c.args.id c.place-place.result) c.as_slice.ensures.value c.place-place.ensures in
    let other : c.place-place.result < length rows → get_or (ids_of rows) c.place-place.result 0 ≢ c.args.id = elim c.else-place-len.branch [
      | else-place-len-via-then-place-len+else-index-id w ↦ λ within same. w.if-index-id.false
          (ap (λ x. x.0) w.index.ensures ∙ sym (id_there rows c.place-place.result w.index.result.now within) ∙ same)
      | else-place-len-via-else-place-len w ↦ λ within same. omega (arith, w.if-place-len.false, c.len.ensures, c.self.inside.rows.ok.0)
    ] in
    sym (not_there rows c.args.id c.place-place.result c.self.invariant place other)
    ∙ ap (λ b. at b.1 c.args.id) c.self.view_is

pub returns-clause-rows : goal.returns-clause-rows
returns-clause-rows g c = sets_none c.args.self.now.1 c.args.id (sym (returns-clause-value g c))
