-- One message by itself: it is served, refused, or the server is given up.
use Rattle.std.proofs.Common.{◌≡◌, ℕ, ◌+◌, ◌≤◌, ◌^◌, true, refl, sym, ap, ◌∙◌, subst, inl, inr, arith}
use Rattle.linda_wire.specs.declared.message.Message.{Message}
use Rattle.linda_wire.specs.declared.refusal.Refusal.TheVariants as refusals
use Rattle.linda_store_state.specs.State.{State, IsState}
use Rattle.linda_store_step.specs.Answer.{last_number}
use Rattle.linda_store_step.specs.Reported as steps
use Rattle.linda_store_step.specs.Reported.{number_of_message}
use Rattle.linda_shared_held.proofs.AloneLaws.{CanCount, answered_one, failed_one, full_one, refused_one}
use Rattle.linda_shared_held.proofs.FaultLaws.{fallen_still}
use Rattle.linda_shared_held.proofs.held.alone.take_one.Goals as goal
use Rattle.linda_shared_held.proofs.held.alone.take_one.Goals.{else-count-eq18446744073709551615-via-then-count-eq18446744073709551615+else-is_its_next}
use Rattle.linda_shared_held.proofs.held.alone.take_one.Goals.{else-count-eq18446744073709551615-via-else-count-eq18446744073709551615}

pub returns-then-is_its_next : goal.returns-then-is_its_next
returns-then-is_its_next g c =
    let m : ℕ × Message = c.args.message.now in
    let is = c.if-count-eq18446744073709551615.true in
    let last : 2 ^ 64 ≤ c.args.count + 1 = omega (arith, is) in
    let next : steps.comes_next (number_of_message m.1) (last_number c.args.server.now.store.state m.0) ≡ true =
    ap (λ (s : State). steps.comes_next (number_of_message m.1) (last_number s m.0)) (sym c.state.ensures.state)
    ∙ (sym c.is_its_next.ensures ∙ c.if-is_its_next.true) in
    refused_one refusals.Spent refl (inr (refl, last, next)) c.ranges.count.fits c.in_ok-turn_away.ensures

pub returns-in_ok-turn_away-in-Err-Full : goal.returns-in_ok-turn_away-in-Err-Full
returns-in_ok-turn_away-in-Err-Full g c =
    full_one c.in-Err-Full.ensures c.from_ref.ensures.value c.in-Err-Full.field-0-is refl c.ranges.count.fits c.in_ok-turn_away-in-Err-Full.ensures

pub returns-in-Err : goal.returns-in-Err
returns-in-Err g c =
    failed_one c.in-Err.ensures (fallen_still c.serve.new.server c.give_up.new.self c.give_up.ensures.down
    (λ was. ap (λ s. s.before.value) (c.give_up.ensures.was_down was)) (λ up. (c.give_up.ensures.up up).0)) c.give_up.ensures.down

pub returns-in-Ok : goal.returns-in-Ok
returns-in-Ok g c =
    let m : ℕ × Message = c.args.message.now in
    let st : State = c.args.server.now.store.state in
    let fits = c.ranges.count.fits in
    let can : CanCount st c.args.count m =
    elim c.else-count-eq18446744073709551615.branch [
      | else-count-eq18446744073709551615-via-then-count-eq18446744073709551615+else-is_its_next w ↦
          inl (
            subst IsState w.state.ensures.state w.state.ensures.ranges,
            ap (λ (s : State). steps.comes_next (number_of_message m.1) (last_number s m.0)) (sym w.state.ensures.state)
                ∙ (sym w.is_its_next.ensures ∙ w.if-is_its_next.false),
          )
      | else-count-eq18446744073709551615-via-else-count-eq18446744073709551615 w ↦
          let other = w.if-count-eq18446744073709551615.false in
          inr (omega (arith, fits, other))
    ] in
    answered_one c.in-Ok.ensures c.from_ref.ensures.value c.first_of.ensures fits can
