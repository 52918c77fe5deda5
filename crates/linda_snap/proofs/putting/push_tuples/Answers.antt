use Rattle.std.proofs.Common.{◌<◌, ◌^◌, ap, ◌∙◌, subst, sym}
use Rattle.std.specs.FinMap.{len, len-entries}
use Rattle.linda_store_state.specs.DeedFormat.{written}
use Rattle.linda_codec.specs.Formats.{short_number}
use Rattle.linda_store_state.specs.State.{State}
use Rattle.linda_snap.specs.Snapshot as format
use Rattle.linda_snap.proofs.PuttingLaws.{none_put}
use Rattle.linda_snap.proofs.putting.push_tuples.Goals as goal

pub push_count-requires : goal.push_count-requires
push_count-requires g c =
    let count = c.len.ensures ∙ ap (λ (s : State). len s.bag) c.state.view_is ∙ len-entries c.args.state.now.bag in
    subst (λ n. n < 2 ^ 32) (sym count) c.requires.short

pub loop-id-init : goal.loop-id-init
loop-id-init g c =
    let count = c.len.ensures ∙ ap (λ (s : State). len s.bag) c.state.view_is ∙ len-entries c.args.state.now.bag in
    none_put (format.placed written) c.args.state.now.bag c.args.out.now.items c.push_count.new.out.items
    (short_number.spell c.len.result) (ap short_number.spell count) c.in_ok-push_count.ensures
