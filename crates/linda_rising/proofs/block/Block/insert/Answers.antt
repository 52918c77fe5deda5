use Rattle.std.proofs.Common.{◌≡◌, ◌==◌, if◌then◌else◌, Some, None, subst, sym, ap, ◌∙◌}
use Rattle.linda_rising.specs.Rows.{at, ids_of, IsPlace, Rises}
use Rattle.linda_rising.proofs.IdLaws.{rises_insert}
use Rattle.linda_rising.proofs.RowLaws.{ids_insert, sets_insert, absent_there}
use Rattle.linda_rising.proofs.block.Block.insert.Goals as goal

pub invariant_of-self-2 : goal.invariant_of-self-2
invariant_of-self-2 g c =
    let rows = c.self.inside.rows.items in
    let place = subst (λ items. IsPlace (ids_of items) c.args.id c.place-place.result) c.as_slice.ensures.value c.place-place.ensures in
    let none : at rows c.args.id ≡ None = ap (λ b. at b.1 c.args.id) c.self.view_is ∙ c.requires in
    subst Rises (sym (ap ids_of c.in_ok-insert_at.ensures.ok ∙ ids_insert rows c.place-place.result (c.args.id, c.args.row)))
    (rises_insert (ids_of rows) c.self.invariant c.args.id c.place-place.result place (absent_there rows c.args.id none))

pub returns-clause-ok : goal.returns-clause-ok
returns-clause-ok g c = λ q.
    let rows = c.self.inside.rows.items in
    let none : at rows c.args.id ≡ None = ap (λ b. at b.1 c.args.id) c.self.view_is ∙ c.requires in
    ap (λ items. at items q) c.in_ok-insert_at.ensures.ok
    ∙ sets_insert rows c.place-place.result c.args.id c.args.row none q
    ∙ ap (λ b. if q == c.args.id then Some c.args.row else at b.1 q) c.self.view_is
