use Rattle.std.proofs.Common.{◌<◌, ◌^◌, ◌++◌, length, refl, sym, ap, subst, ◌∙◌}
use Rattle.std.specs.FinMap.{get, len, entries, len-entries}
use Rattle.linda_map_laws.proofs.MapLaws.{get_empty}
use Rattle.linda_codec.specs.Formats.{number, short_number}
use Rattle.linda_store_state.specs.State.{State}
use Rattle.linda_snap.proofs.PuttingLaws.{few_tuples, few_clients}
use Rattle.linda_snap.proofs.SnapshotWriterLaws.{begun}
use Rattle.linda_snap.proofs.snapshot_encoder.spell_first.Goals as goal

pub as_count-count-requires : goal.as_count-count-requires
as_count-count-requires g c =
    let count = c.len.ensures ∙ len-entries c.state.inside.book ∙ ap (λ (s : State). length (entries s.book)) c.state.view_is in
    subst (λ n. n < 2 ^ 32) (sym count) (few_clients c.args.state.now c.requires.short)

pub push_count-requires : goal.push_count-requires
push_count-requires g c =
    let count = c.len-2.ensures ∙ ap (λ (s : State). len s.bag) c.state.view_is ∙ len-entries c.args.state.now.bag in
    subst (λ n. n < 2 ^ 32) (sym count) (few_tuples c.args.state.now c.requires.short)

pub returns-clause-begun : goal.returns-clause-begun
returns-clause-begun g c =
    let st = c.args.state.now in
    let count = c.len-2.ensures ∙ ap (λ (s : State). len s.bag) c.state.view_is ∙ len-entries st.bag in
    begun st _ c.push_count.new.out.items c.requires.ranges refl (ap (λ (s : State). s.next) c.state.view_is)
    (λ id. ap (λ m. get m id) c.new.ensures ∙ get_empty id)
    (c.in_ok-book.ensures ∙ ap (λ (s : State). s.book) c.state.view_is)
    (c.as_count-count.ensures ∙ c.len.ensures ∙ len-entries c.state.inside.book ∙ ap (λ (s : State). length (entries s.book)) c.state.view_is)
    (c.in_ok-push_count.ensures
    ∙ ap (λ b. b ++ short_number.spell c.len-2.result) (c.in_ok-extend_from_slice.ensures.items
    ∙ ap (λ b. b ++ c.to_be_bytes.result) c.new-bytes.ensures.items ∙ c.to_be_bytes.ensures ∙ ap (λ (s : State). number.spell s.next) c.state.view_is)
    ∙ ap (λ n. number.spell st.next ++ short_number.spell n) count)

pub returns-clause-next : goal.returns-clause-next
returns-clause-next g c = ap (λ (s : State). s.next) c.state.view_is
