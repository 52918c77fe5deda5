-- What a call keeps to that a node makes, from what the call below it keeps to.
use Rattle.std.proofs.Common.{◌≡◌, ◌≢◌, inl, inr, ◌↔◌, ℕ, [], List, true, Ok, Err, IsErrOf, refl, sym, ap, subst, ◌∙◌, true≢false, rules}
use Rattle.std.specs.Global.{Vec}
use Rattle.linda_wire.specs.declared.message.Message.{Message}
use Rattle.linda_wire.specs.declared.reply.Reply.{Reply}
use Rattle.linda_disk.specs.declared.disk.Disk.{Ghosts}
use Rattle.linda_disk.specs.View.{IsTimed}
use Rattle.linda_store_step.specs.History.{comings}
use Rattle.linda_store.specs.declared.node.NodeFault.{NodeFault}
use Rattle.linda_store.specs.declared.node.NodeFault.TheVariants as nodes
use Rattle.linda_server.specs.declared.durable.Durable.{Durable}
use Rattle.linda_server.specs.declared.fault.ServeFault.{ServeFault}
use Rattle.linda_server.specs.declared.fault.ServeFault.TheVariants as faults
use Rattle.linda_store_step.specs.declared.served.Served.{Served}
use Rattle.linda_server.specs.Calls.{HasHandled}
use Rattle.linda_server.specs.Lives.{Call, serves, rewrites, at_work, at_rest, amid_rest}
use Rattle.linda_server.specs.Handled.{Serves, Handles, Rewrites, Fails, Falls}
use Rattle.linda_server.proofs.CallLaws.{handled}
use Rattle.linda_server.proofs.GoingLaws.{how_of, other}
use Rattle.linda_server.proofs.LivesLaws.{cut_at_work, goes_on_well, goes_on_still}

-- What a node answers for a fault: `Full` only for the fault `Full`.
pub record IsToldAs (fault : ServeFault) (told : NodeFault) : Type 0 where
  pub full : (told ≡ nodes.Full) ↔ (fault ≡ faults.Full)
  pub down : (told ≡ nodes.Down) ↔ (fault ≢ faults.Full)

pub same_fault : {A E : Type 0} (e f : E) → IsErrOf {T = A} (Err e) f → e ≡ f
same_fault e f is = search (rules, is)

module _ {D : Type 0} {g : Ghosts D} (old new : Durable D g) (fault : ServeFault) (told : NodeFault) (told_as : IsToldAs fault told) where
  -- It is down after each fault but `Full`.
  went_down : {A : Type 0} → (IsErrOf {T = A} (Err fault) faults.Down ↔ (old.down ≡ true)) → (old.down ≡ true → new ≡ old)
      → (IsErrOf {T = A} (Err fault) faults.Disk → new.down ≡ true) × (IsErrOf {T = A} (Err fault) faults.Memory → new.down ≡ true)
      → fault ≢ faults.Full → new.down ≡ true
  went_down was_down stays goes_down not_full = by fault not_full was_down goes_down
    where
      by : {A : Type 0} (f : ServeFault) → f ≢ faults.Full → (IsErrOf {T = A} (Err f) faults.Down ↔ (old.down ≡ true))
          → (IsErrOf {T = A} (Err f) faults.Disk → new.down ≡ true) × (IsErrOf {T = A} (Err f) faults.Memory → new.down ≡ true) → new.down ≡ true
      by faults.Down not_full was_down goes_down = ap (λ (s : Durable D g). s.down) (stays (was_down.0 refl)) ∙ was_down.0 refl
      by faults.Full not_full was_down goes_down = absurd (not_full refl)
      by faults.Disk not_full was_down goes_down = goes_down.0 refl
      by faults.Memory not_full was_down goes_down = goes_down.1 refl

  -- If it was down, `Down` is returned.
  still_down : {A B : Type 0} → (IsErrOf {T = A} (Err fault) faults.Down ↔ (old.down ≡ true)) → old.down ≡ true → IsErrOf {T = B} (Err told) nodes.Down
  still_down was_down down =
      let is : fault ≡ faults.Down = same_fault fault faults.Down (was_down.1 down) in
      ap Err (told_as.down.1 (λ full. let no : faults.Down ≡ faults.Full = sym is ∙ full in search (rules, no)))

module _ {D : Type 0} {g : Ghosts D} (timed : (d : D) → g.honest d → IsTimed (g.view d)) (old new : Durable D g) where
  -- ---- messages

  pub handles_well : (ms : List (ℕ × Message)) (served : Served) (sends : Vec (ℕ × Reply))
      → sends ≡ served.sends → Serves old ms (Ok served) new → Handles old ms (Ok sends) new
  handles_well ms served sends same so =
      let items = ap (λ (v : Vec (ℕ × Reply)). v.items) same in
      record {
        any_moment = so.any_moment;
        done = subst (λ l. HasHandled old.store (comings ms) l new.store) (sym items) (handled old.store new.store ms served so.done);
        now = so.now;
        up = so.up;
        full = λ e. search (rules, e);
        room = so.room;
        down = λ e. search (rules, e);
        stays_down = λ down. absurd (true≢false (sym down ∙ so.up.0));
        honest = so.honest;
        limit = so.limit;
        lost = so.lost;
        before = λ up down. absurd (true≢false (sym down ∙ so.up.1));
        life =
            goes_on_well timed (λ (v : Vec (ℕ × Reply)). v.items) old new served.deeds.items sends so.up.0 so.up.1
            (subst (λ l. Call old new served.deeds.items l) (sym items) (serves ms served so.done))
            (λ up. cut_at_work timed old new (comings ms) (so.any_moment up));
      }

  pub handles_not : (ms : List (ℕ × Message)) (fault : ServeFault) (told : NodeFault) → IsToldAs fault told
      → Serves old ms (Err fault) new → Handles old ms (Err told) new
  handles_not ms fault told told_as so = record {
    any_moment = so.any_moment;
    done = tt;
    now = tt;
    up = tt;
    full = λ e. so.full (ap Err (told_as.full.0 (same_fault told nodes.Full e)));
    room = tt;
    down = λ e. went_down old new fault told told_as so.was_down so.stays_down so.goes_down (told_as.down.0 (same_fault told nodes.Down e));
    stays_down = λ down. (still_down old new fault told told_as so.was_down down, so.stays_down down);
    honest = so.honest;
    limit = so.limit;
    lost = so.lost;
    before = λ up down.
        elim (so.before up) [
          | inl full ↦ absurd (true≢false (sym down ∙ ap (λ (s : Durable D g). s.down) (so.full full).0 ∙ up))
          | inr same ↦ same
        ];
    life =
        goes_on_still timed (λ (v : Vec (ℕ × Reply)). v.items) old new told
        (how_of old new fault (λ full. (so.full full).0) so.was_down so.stays_down so.goes_down
        (λ not_full up down. at_work (comings ms) (other fault (new.before.value ≡ old.store.state) not_full (so.before up)) (so.lost up down)))
        (λ up. cut_at_work timed old new (comings ms) (so.any_moment up));
  }

  -- ---- the same state, written anew

  pub rewrites_well : {T : Type 0} (done : T) → Rewrites {E = ServeFault} old (Ok done) new → Rewrites {E = NodeFault} old (Ok done) new
  rewrites_well done so = record { any_moment = so.any_moment; now = so.now; same = so.same; up = so.up; lost = so.lost; honest = so.honest }

  pub rewrites_not : {T : Type 0} (fault : ServeFault) (told : NodeFault) → Rewrites {T = T} old (Err fault) new → Rewrites {T = T} old (Err told) new
  rewrites_not fault told so = record { any_moment = so.any_moment; now = tt; same = so.same; up = tt; lost = so.lost; honest = so.honest }

  pub falls_not_at_all : {T : Type 0} (done : T) → Rewrites {E = ServeFault} old (Ok done) new → Falls old (Ok done) new
  falls_not_at_all {T = T} done so = record {
    down = λ e. search (rules, e);
    stays_down = λ down. absurd (true≢false (sym down ∙ so.up.0));
    life = goes_on_well timed (λ (x : T). []) old new [] done so.up.0 so.up.1 (rewrites so.same.0) (λ up orderly. ([], amid_rest (so.any_moment up)));
  }

  pub falls_so : {T : Type 0} (fault : ServeFault) (told : NodeFault) → IsToldAs fault told
      → Rewrites {T = T} old (Err fault) new → Fails {T = T} old (Err fault) new
      → (IsErrOf {T = T} (Err fault) faults.Full → new ≡ old) → Falls {T = T} old (Err told) new
  falls_so {T = T} fault told told_as so fails full = record {
    down = λ e. went_down old new fault told told_as fails.was_down fails.stays_down fails.goes_down (told_as.down.0 (same_fault told nodes.Down e));
    stays_down = λ down. (still_down old new fault told told_as fails.was_down down, fails.stays_down down);
    life =
        goes_on_still timed (λ (x : T). []) old new told
        (how_of old new fault full fails.was_down fails.stays_down fails.goes_down (λ not_full up down. let fell = so.lost up down in at_rest fell.0 fell.1))
        (λ up orderly. ([], amid_rest (so.any_moment up)));
  }
