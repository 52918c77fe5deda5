use Rattle.std.proofs.Common.{◌≡◌, length, subst, sym, ◌∙◌, eqb-true}
use Rattle.linda_rising.specs.Rows.{ids_of, IsPlace}
use Rattle.linda_rising.proofs.RowLaws.{none_past}
use Rattle.linda_rising.proofs.block.Block.is_past.Goals as goal

pub returns : goal.returns
returns g c = λ yes.
    let rows = c.self.inside.rows.items in
    let end : c.place.result ≡ length rows = eqb-true _ _ yes ∙ c.len.ensures ∙ c.self.inside.rows.ok.0 in
    let place = subst (λ items. IsPlace (ids_of items) c.args.id c.place.result) c.as_slice.ensures.value c.place.ensures in
    rw (sym c.self.view_is) (none_past rows c.args.id (subst (IsPlace (ids_of rows) c.args.id) end place))
