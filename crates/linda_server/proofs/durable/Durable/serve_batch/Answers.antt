-- What was served is put onto the bank in use, or nothing is touched.
use Rattle.std.proofs.Common.{◌≡◌, ℕ, ◌<◌, ◌≤◌, ◌∙◌, [], inl, inr, Err, Result, false, IfOk, IfSome, ◌+◌, length, refl, sym, subst, ap, arith, rules}
use Rattle.std.specs.Vec.{vec_len}
use Rattle.std.proofs.lemmas.Result.{err_from_is_err_and}
use Rattle.linda_store_state.proofs.DoneLaws.{on_ok}
use Rattle.linda_store_step.specs.declared.size.TheConstants.{MAX_GROUP}
use Rattle.linda_store_step.specs.declared.size.Need.{Need}
use Rattle.linda_store_step.specs.Store.{Store}
use Rattle.linda_store_step.specs.History.{comings, history_of}
use Rattle.linda_store_step.specs.declared.served.Served.{Served}
use Rattle.linda_store_step.specs.Served.{IsServed}
use Rattle.linda_server.specs.Messages.{messages_of}
use Rattle.linda_server.specs.Pairs.{PairsSince}
use Rattle.linda_server.specs.Server.{both_of, form_in_use, end_in_use, IsPutOn}
use Rattle.linda_server.specs.Calls.{LeadTo, IsBeforeOrAfter, room_for}
use Rattle.linda_server.specs.Node.{shown}
use Rattle.linda_store_step.proofs.ServedLaws.{served_happens}
use Rattle.linda_server.proofs.CallLaws.{leads_to, few, room_of, suit_of, too_much, not_too_much, still_before}
use Rattle.linda_server.proofs.CallLaws.{served_since, stands_so, none_remains, all_remains_up, at_fault, each_share}
use Rattle.linda_server.proofs.CallLaws.{told_so}
use Rattle.linda_store_state.specs.State.{State}
use Rattle.linda_server.specs.Next.{IsNextFor, IsSafeIn}
use Rattle.linda_server.proofs.NextLaws.{next_up, served_safe, if_kept}
use Rattle.linda_server.specs.declared.fault.ServeFault.{ServeFault}
use Rattle.linda_server.specs.declared.fault.ServeFault.TheVariants.{Memory}
use Rattle.linda_server.specs.Lives.{GoesOn}
use Rattle.linda_server.proofs.LivesLaws.{cut_at_work, goes_on_still, serves_on}
use Rattle.linda_server.proofs.durable.Durable.serve_batch.Goals as goal

within : (end limit more new_end new_limit : ℕ) → end + more ≤ limit → new_end ≡ end → new_limit ≡ limit → new_end + more ≤ new_limit
within end limit more new_end new_limit fits end_is limit_is = omega (arith, fits, end_is, limit_is)

pub settle-requires-clause-begun : goal.settle-requires-clause-begun
settle-requires-clause-begun g c =
    let s = c.args.self.now in
    let now = c.state.result.now in
    let disks = c.begin.new.self.disks in
    let next = c.unless_spent.result in
    let same : now ≡ s.store.state = c.state.ensures.state ∙ ap (λ (st : Store). st.state) c.begin.ensures.same.0 in
    subst (λ st. ∥ IsNextFor next disks st ∥₁) (same ∙ sym c.begin.ensures.before)
    (next_up c.replace-next.result next disks now now (if_kept _ c.with_taken_copied.result next c.unless_spent.ensures c.with_taken_copied.ensures.follows)
    (subst (λ o. ∥ IsNextFor o disks now ∥₁) (sym c.replace-next.ensures.value)
    (subst (λ st. ∥ IsNextFor c.begin.new.self.next disks st ∥₁) (sym same) c.begin.ensures.begun)))

pub settle-requires-clause-safe : goal.settle-requires-clause-safe
settle-requires-clause-safe g c id taken =
    let s = c.args.self.now in
    let ms = messages_of c.args.batch in
    let now = c.state.result.now in
    let same : now ≡ s.store.state = c.state.ensures.state ∙ ap (λ (st : Store). st.state) c.begin.ensures.same.0 in
    let old = c.begin.new.self.store in
    let after = c.serve.new.store in
    subst (λ (st : State). IsSafeIn c.unless_spent.result st.bag id) (same ∙ sym c.begin.ensures.before)
    (served_safe c.unless_spent.result now.bag old.state old.soft ms c.in-Ok.served after.state after.soft c.in-Ok.ensures.ok
    (if_kept _ c.with_taken_copied.result c.unless_spent.result c.unless_spent.ensures c.with_taken_copied.ensures.safe) id taken)

pub settle-requires-clause-few : goal.settle-requires-clause-few
settle-requires-clause-few g c =
    let ms = messages_of c.args.batch in
    let s = c.args.self.now.store in
    let after = c.serve.new.store in
    few s.state s.soft ms c.in-Ok.served after.state after.soft MAX_GROUP c.requires
    (subst (λ (st : Store). IsServed st.state st.soft ms c.in-Ok.served c.serve.new.store.state c.serve.new.store.soft)
    c.begin.ensures.same.0 c.in-Ok.ensures.ok)

pub settle-requires-clause-leads : goal.settle-requires-clause-leads
settle-requires-clause-leads g c =
    let ms = messages_of c.args.batch in
    let s = c.args.self.now.store in
    let served = c.in-Ok.served in
    let after = c.serve.new.store in
    subst (λ st. LeadTo st served.deeds.items after.state) (sym c.begin.ensures.before)
    (leads_to s.state s.soft ms served after.state after.soft c.need_of-need.ensures.orderly
    (subst (λ (st : Store). IsServed st.state st.soft ms c.in-Ok.served c.serve.new.store.state c.serve.new.store.soft)
    c.begin.ensures.same.0 c.in-Ok.ensures.ok))

pub settle-requires-clause-room : goal.settle-requires-clause-room
settle-requires-clause-room g c some =
    let ms = messages_of c.args.batch in
    let s = c.args.self.now.store in
    let served = c.in-Ok.served in
    let after = c.serve.new.store in
    let all = history_of after.state after.soft served.deeds.items served.sends.items in
    let happens = served_happens s.state s.soft ms served after.state after.soft
    (subst (λ (st : Store). IsServed st.state st.soft ms c.in-Ok.served c.serve.new.store.state c.serve.new.store.soft)
    c.begin.ensures.same.0 c.in-Ok.ensures.ok) in
    let disks = c.begin.ensures.same.1 in
    let form = form_in_use c.begin.new.self.disks in
    let is_form = ap (form_in_use) (sym disks) in
    let limited = c.begin.ensures.same.2 in
    let end = ap (end_in_use) disks in
    let now = c.args.self.now in
    let fits =
    room_of (form_in_use now.disks) form is_form (end_in_use now.disks) now.limit c.need_of-need.result served.deeds.items
    (c.need_of-need.ensures.need all happens) c.in_ok-admit.ensures.room c.in_ok-admit.ensures.spelled some in
    within _ _ _ _ _ fits end limited

pub settle-requires-clause-suit : goal.settle-requires-clause-suit
settle-requires-clause-suit g c =
    let ms = messages_of c.args.batch in
    let s = c.args.self.now.store in
    let served = c.in-Ok.served in
    let after = c.serve.new.store in
    let all = history_of after.state after.soft served.deeds.items served.sends.items in
    let happens = served_happens s.state s.soft ms served after.state after.soft
    (subst (λ (st : Store). IsServed st.state st.soft ms c.in-Ok.served c.serve.new.store.state c.serve.new.store.soft)
    c.begin.ensures.same.0 c.in-Ok.ensures.ok) in
    suit_of (form_in_use c.args.self.now.disks) (form_in_use c.begin.new.self.disks) (ap (form_in_use) (sym c.begin.ensures.same.1))
    (end_in_use c.args.self.now.disks) c.args.self.now.limit c.need_of-need.result served.deeds.items
    (c.need_of-need.ensures.need all happens) c.in_ok-admit.ensures.spelled

pub returns-in_err-admit : goal.returns-in_err-admit
returns-in_err-admit g c =
    let s = c.args.self.now in
    let ms = messages_of c.args.batch in
    record {
      orderly = c.need_of-need.ensures.orderly;
      any_moment = λ is_up are. still_before g.met.D.Disk.timed s.disks s.store (comings ms) are (s.kept is_up);
      done = search rules;
      each = search rules;
      now = search rules;
      up = search rules;
      full = λ full.
          let past : IfSome c.need_of-need.result (λ (n : Need). (0 < n.deeds) × (s.limit < end_in_use s.disks + room_for n.deeds n.bytes)) =
          search (rules, full) in (
            refl,
            λ all happens.
                too_much (form_in_use s.disks) (form_in_use s.disks) refl (end_in_use s.disks) s.limit c.need_of-need.result all.deeds
                (c.need_of-need.ensures.need all happens) past,
          );
      room = search rules;
      was_down = search rules;
      stays_down = λ down. refl;
      goes_down = search rules;
      cause = search rules;
      idle = search rules;
      clock = search rules;
      honest = search rules;
      limit = refl;
      lost = λ up down. search (rules, up, down);
      before = λ up. search (rules, up);
      life =
          let p = err_from_is_err_and c.from_residual.result c.from_residual.ensures.1 in
          subst (λ (r : Result Served ServeFault). GoesOn (λ (told : Served). told.sends.items) s r s) (sym p.1)
          (goes_on_still g.met.D.Disk.timed (λ (told : Served). told.sends.items) s s p.0 (inl refl)
          (λ is_up. cut_at_work g.met.D.Disk.timed s s (comings ms) (λ are. still_before g.met.D.Disk.timed s.disks s.store (comings ms) are (s.kept is_up))));
    }

pub returns-in_default : goal.returns-in_default
returns-in_default g c =
    let s = c.args.self.now in
    let ms = messages_of c.args.batch in
    let was_up : s.down ≡ false = search rules in
    record {
      orderly = c.need_of-need.ensures.orderly;
      any_moment = λ is_up are.
          subst (λ d. PairsSince (both_of s.disks) (both_of d) (IsBeforeOrAfter s.store (comings ms))) (sym c.begin.ensures.same.1)
          (still_before g.met.D.Disk.timed s.disks s.store (comings ms) are (s.kept is_up));
      done = tt;
      each = tt;
      now = tt;
      up = tt;
      full = λ full. search (rules, full);
      room = tt;
      was_down = search rules;
      stays_down = search rules;
      goes_down = search rules;
      cause = search rules;
      idle = tt;
      clock = tt;
      honest = search rules;
      limit = c.begin.ensures.same.2;
      lost = λ is_up is_down. none_remains (shown s.before.value s.store s.down s.lost.items) (comings ms) c.begin.new.self.lost.items c.begin.ensures.same.3;
      before = λ up. inr c.begin.ensures.before;
      life =
          serves_on g.met.D.Disk.timed s _ ms (Err Memory) was_up tt tt c.begin.ensures.down c.begin.ensures.before
          (λ down. none_remains (shown s.before.value s.store s.down s.lost.items) (comings ms) c.begin.new.self.lost.items c.begin.ensures.same.3)
          (λ are. subst (λ d. PairsSince (both_of s.disks) (both_of d) (IsBeforeOrAfter s.store (comings ms))) (sym c.begin.ensures.same.1)
          (still_before g.met.D.Disk.timed s.disks s.store (comings ms) are (s.kept was_up)));
    }

pub returns : goal.returns
returns g c =
    let s = c.args.self.now in
    let ms = messages_of c.args.batch in
    let old = s.store in
    let served = c.in-Ok.served in
    let after = c.serve.new.store in
    let new = c.settle.new.self in
    let is_served = subst (λ (st : Store). IsServed st.state st.soft ms served after.state after.soft) c.begin.ensures.same.0 c.in-Ok.ensures.ok in
    let all = history_of after.state after.soft served.deeds.items served.sends.items in
    let happens = served_happens old.state old.soft ms served after.state after.soft is_served in
    let was_up : s.down ≡ false = search rules in
    let done : IfOk c.settle.result (λ (told : Served). IsServed old.state old.soft ms told new.store.state new.store.soft) = search rules in
    record {
      orderly = c.need_of-need.ensures.orderly;
      any_moment = λ is_up are.
          served_since g.met.D.Disk.timed s.disks c.begin.new.self.disks new.disks old after ms served c.begin.new.self.before.value
          c.begin.ensures.same.1 c.begin.ensures.before is_served are c.settle.ensures.any_moment;
      done = done;
      each =
          let before = c.begin.new.self.store in
          told_so c.settle.result served (λ (s : Served). vec_len s.counts ≡ length ms) c.settle.ensures.done
          (each_share before.state before.soft ms served after.state after.soft c.in-Ok.ensures.ok);
      now = on_ok _ _ c.settle.result (λ is_up are. stands_so g.met.D.Disk.timed new.disks new.store.state are (new.kept is_up)) c.settle.ensures.up;
      up = search rules;
      full = λ full. search (rules, full);
      room =
          on_ok _ _ c.settle.result (λ is_up full.
          not_too_much (form_in_use s.disks) (form_in_use s.disks) refl (end_in_use s.disks) s.limit c.need_of-need.result served.deeds.items
          (c.need_of-need.ensures.need all happens) c.in_ok-admit.ensures.room c.in_ok-admit.ensures.spelled (full all happens)) c.settle.ensures.up;
      was_down = search rules;
      stays_down = search rules;
      goes_down = search rules;
      cause = search rules;
      idle = subst (λ d. IfOk c.settle.result (λ served. served.deeds.items ≡ [] → new.disks ≡ d)) c.begin.ensures.same.1 c.settle.ensures.idle;
      clock = subst (λ d. IfOk c.settle.result (λ served. 0 < length served.deeds.items → IsPutOn d new.disks)) c.begin.ensures.same.1 c.settle.ensures.clock;
      honest = search rules;
      limit = search rules;
      lost = λ is_up is_down.
          let lost = at_fault c.settle.result new.down (new.lost.items ≡ served.deeds.items) c.settle.ensures.up c.settle.ensures.lost is_down in
          all_remains_up s.before.value s.store s.down s.lost.items ms served after.state after.soft new.lost.items is_up is_served lost;
      before = λ up. search (rules, up);
      life =
          serves_on g.met.D.Disk.timed s new ms c.settle.result was_up done c.settle.ensures.up c.settle.ensures.fault
          (c.settle.ensures.same.2 ∙ c.begin.ensures.before)
          (λ is_down.
          let lost = at_fault c.settle.result new.down (new.lost.items ≡ served.deeds.items) c.settle.ensures.up c.settle.ensures.lost is_down in
          all_remains_up s.before.value s.store s.down s.lost.items ms served after.state after.soft new.lost.items was_up is_served lost)
          (λ are. served_since g.met.D.Disk.timed s.disks c.begin.new.self.disks new.disks old after ms
          served c.begin.new.self.before.value c.begin.ensures.same.1 c.begin.ensures.before is_served are
          c.settle.ensures.any_moment);
    }
