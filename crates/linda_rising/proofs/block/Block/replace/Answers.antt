use Rattle.std.proofs.Common.{◌≡◌, ◌<◌, ◌==◌, if◌then◌else◌, Some, IsSome, is_some, subst, sym, ap, ◌∙◌}
use Rattle.linda_rising.specs.Rows.{at, ids_of, IsPlace, Rises}
use Rattle.linda_rising.proofs.RowLaws.{there_within, ids_set, sets_write, row_there, id_there}
use Rattle.linda_rising.proofs.block.Block.replace.Goals as goal

pub index_mut-requires : goal.index_mut-requires
index_mut-requires g c =
    let rows = c.self.inside.rows.items in
    let place = subst (λ items. IsPlace (ids_of items) c.args.id c.place-place.result) c.as_slice.ensures.value c.place-place.ensures in
    let some : IsSome (at rows c.args.id) = ap (λ b. is_some (at b.1 c.args.id)) c.self.view_is ∙ c.requires in
    subst (λ n. c.place-place.result < n) (sym c.self.inside.rows.ok.0) (there_within rows c.args.id c.place-place.result c.self.invariant place some).0

pub invariant_of-self : goal.invariant_of-self
invariant_of-self g c =
    let rows = c.self.inside.rows.items in
    let place = subst (λ items. IsPlace (ids_of items) c.args.id c.place-place.result) c.as_slice.ensures.value c.place-place.ensures in
    let some : IsSome (at rows c.args.id) = ap (λ b. is_some (at b.1 c.args.id)) c.self.view_is ∙ c.requires in
    let there = there_within rows c.args.id c.place-place.result c.self.invariant place some in
    subst Rises (sym (ids_set rows c.place-place.result c.replace-old.new.dest (ap (λ x. x.0) c.replace-old.ensures.after ∙ sym there.1))) c.self.invariant

pub returns-clause-value : goal.returns-clause-value
returns-clause-value g c =
    let rows = c.self.inside.rows.items in
    let place = subst (λ items. IsPlace (ids_of items) c.args.id c.place-place.result) c.as_slice.ensures.value c.place-place.ensures in
    let some : IsSome (at rows c.args.id) = ap (λ b. is_some (at b.1 c.args.id)) c.self.view_is ∙ c.requires in
    let there = there_within rows c.args.id c.place-place.result c.self.invariant place some in
    let e = c.index_mut.result.now in
    let id : e.0 ≡ c.args.id = ap (λ x. x.0) c.index_mut.ensures.value ∙ sym (id_there rows c.place-place.result e there.0) ∙ there.1 in
    ap (λ x. Some x.1) c.replace-old.ensures.value
    ∙ sym (row_there rows c.place-place.result e c.self.invariant there.0 c.index_mut.ensures.value)
    ∙ ap (at rows) id
    ∙ ap (λ b. at b.1 c.args.id) c.self.view_is

pub returns-clause-rows : goal.returns-clause-rows
returns-clause-rows g c = λ q.
    let rows = c.self.inside.rows.items in
    let place = subst (λ items. IsPlace (ids_of items) c.args.id c.place-place.result) c.as_slice.ensures.value c.place-place.ensures in
    let some : IsSome (at rows c.args.id) = ap (λ b. is_some (at b.1 c.args.id)) c.self.view_is ∙ c.requires in
    let there = there_within rows c.args.id c.place-place.result c.self.invariant place some in
    ap (λ e. at (Rattle.std.proofs.Common.set rows c.place-place.result e) q) c.replace-old.ensures.after
    ∙ sets_write rows c.place-place.result c.args.id c.args.row c.self.invariant there.0 there.1 q
    ∙ ap (λ b. if q == c.args.id then Some c.args.row else at b.1 q) c.self.view_is
