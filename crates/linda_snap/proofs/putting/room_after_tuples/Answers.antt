use Rattle.std.proofs.Common.{arith, ap, ◌∙◌}
use Rattle.std.specs.FinMap.{len}
use Rattle.std.proofs.lemmas.Option.{IfSome_then}
use Rattle.linda_store_state.specs.State.{State}
use Rattle.linda_bag.specs.Bytes.{bytes_of}
use Rattle.linda_bag.proofs.HintLaws.{IfNone_any, IfNone_then}
use Rattle.linda_snap.proofs.PuttingLaws.{all_placed}
use Rattle.linda_snap.proofs.putting.room_after_tuples.Goals as goal

pub returns-in_err-ids-clause-none : goal.returns-in_err-ids-clause-none
returns-in_err-ids-clause-none g c =
    let count = c.len.ensures ∙ ap (λ (s : State). len s.bag) c.state.view_is in
    IfNone_any c.from_residual-in_err-ids.result
    (omega (arith, count, all_placed c.args.state.now.bag, c.in_err-ids.ensures, c.ranges.room.fits))

pub returns-in_err-left-2-clause-none : goal.returns-in_err-left-2-clause-none
returns-in_err-left-2-clause-none g c =
    let count = c.len.ensures ∙ ap (λ (s : State). len s.bag) c.state.view_is in
    IfNone_any c.from_residual-in_err-left-2.result
    (omega (arith, count, all_placed c.args.state.now.bag, c.in_ok-left.ensures, c.in_ok-ids.ensures, c.in_err-left-2.ensures))

pub returns-clause-some : goal.returns-clause-some
returns-clause-some g c =
    let count = c.len.ensures ∙ ap (λ (s : State). len s.bag) c.state.view_is in
    let bytes = ap (λ (s : State). bytes_of s.bag) c.state.view_is in
    IfSome_then c.room_after.result c.room_after.ensures.some (λ left is.
    omega (arith, count, bytes, all_placed c.args.state.now.bag, c.in_ok-left.ensures, c.in_ok-ids.ensures, c.in_ok-left-2.ensures, is))

pub returns-clause-none : goal.returns-clause-none
returns-clause-none g c =
    let count = c.len.ensures ∙ ap (λ (s : State). len s.bag) c.state.view_is in
    let bytes = ap (λ (s : State). bytes_of s.bag) c.state.view_is in
    IfNone_then c.room_after.result c.room_after.ensures.none (λ over.
    omega (arith, count, bytes, all_placed c.args.state.now.bag, c.in_ok-left.ensures, c.in_ok-ids.ensures, c.in_ok-left-2.ensures, over))
