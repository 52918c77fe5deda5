-- What is known of a server, and of two disks without one, after every life.
use Rattle.std.proofs.Common.{◌≡◌, ℕ, Bool, true, false, inl, inr, if◌then◌else◌, List, [], ◌∷◌, ◌++◌, None, refl, sym}
use Rattle.std.proofs.Common.{ap, ◌∙◌, subst, append-nil, true≢false, Result, Ok, Err, IfOk, OnOk, OnErr, ◌⊎◌}
use Rattle.std.proofs.Math.Logic.{∥∥₁_map}
use Rattle.std.proofs.lemmas.Bool.{cases_Bool, cond-false, cond-true}
use Rattle.std.proofs.lemmas.List.Elements.{All-nil, All-append}
use Rattle.linda_wire.specs.declared.message.Message.{Message}
use Rattle.linda_wire.specs.declared.reply.Reply.{Reply}
use Rattle.linda_store_state.specs.declared.deed.Deed.{Deed}
use Rattle.linda_store_state.specs.State.{State, IsState, empty_state}
use Rattle.linda_store_state.specs.After.{IsAfter}
use Rattle.linda_store_state.specs.Proper.{IsProper, AreDone}
use Rattle.linda_store_state.proofs.StateLaws.{empty_is_state}
use Rattle.linda_store_state.proofs.AfterLaws.{one_after, joined_after}
use Rattle.linda_store_state.proofs.JoinLaws.{joined_done}
use Rattle.linda_store_state.proofs.OnceLaws.{taken_once}
use Rattle.linda_store_state.proofs.ProperLaws.{none_done, proper_state, takes_below}
use Rattle.linda_store_step.specs.Soft.{no_asks}
use Rattle.linda_store_step.specs.Store.{Store, IsOrderly}
use Rattle.linda_store_step.specs.Answer.{only_sends}
use Rattle.linda_store_step.specs.History.{Coming, hangs_up, comings, history_of}
use Rattle.linda_store_step.proofs.ExistLaws.{outcome_of}
use Rattle.linda_store_step.proofs.GrowthLaws.{one_only}
use Rattle.linda_store_step.proofs.HistoryLaws.{all_safe}
use Rattle.linda_store_step.proofs.OrderLaws.{new_store_orderly}
use Rattle.linda_store_step.specs.Replies.{reports_deed, ReportsOne}
use Rattle.linda_store.specs.Node.{Node, Sent, IsDown, IsDone, WentDown, MayRemain}
use Rattle.linda_store.specs.Sound.{IsSound, AreBacked}
use Rattle.linda_store.proofs.ServeLaws.{backed_later, works_sound, works_backed}
use Rattle.linda_disk.specs.declared.disk.Disk.{Ghosts}
use Rattle.linda_disk.specs.View.{IsTimed}
use Rattle.linda_snap.specs.Stands.{Stands}
use Rattle.linda_server.specs.declared.durable.Durable.{Durable}
use Rattle.linda_server.specs.declared.fault.ServeFault.{ServeFault}
use Rattle.linda_store_step.specs.declared.served.Served.{Served}
use Rattle.linda_store_step.specs.Served.{IsServed}
use Rattle.linda_server.specs.Pairs.{two, PairsSince, PairsNow}
use Rattle.linda_server.specs.Server.{both_of, BothHonest, AlwaysLeave}
use Rattle.linda_server.specs.Calls.{StandsAround, IsWithOrWithout, IsBeforeOrAfter, StandsFor, IsNothingOr}
use Rattle.linda_server.specs.Node.{shown}
use Rattle.linda_server.specs.Reopening.{has_done}
use Rattle.linda_server.specs.Lives.{found_of, Call, handles, serves, closes, rewrites, Fall, at_work, at_rest, Cut}
use Rattle.linda_server.specs.Lives.{amid_work, amid_rest, AreLeft, Made, disks_then, IsOpenedOn, Phase, Serving}
use Rattle.linda_server.specs.Lives.{Stopped, Life, made, half_made, called, fell, cut, stopped, opened, not_opened}
use Rattle.linda_server.specs.Lives.{GoesOn, StaysOn}
use Rattle.linda_server.specs.Promises.{KeepsItsWord, IsReady, AreReady, IsFreed}
use Rattle.linda_server.proofs.AgainLaws.{answered_as_kept, all_covered, still_there}
use Rattle.linda_server.proofs.CallLaws.{none_remains, stands_with}
use Rattle.linda_server.proofs.LeftLaws.{empty_stands, at_work_there, left_since, left_now}
use Rattle.linda_server.proofs.NodeLaws.{has_done_it, has_gone_down}
use Rattle.linda_server.proofs.ReopeningLaws.{reopened}
use Rattle.linda_store_step.proofs.ServedLaws.{served_happens}
use Rattle.linda_server.proofs.SwitchLaws.{with_none}
use Rattle.linda_server.proofs.KnownLaws.{found_proper, AreKnown}

module _ {D : Type 0} {g : Ghosts D} (timed : (d : D) → g.honest d → IsTimed (g.view d)) where
  -- ---- what is known

  abbrev node : Durable D g → Node
  node s = shown s.before.value s.store s.down s.lost.items

  -- Of a server: its deeds are sound, and what was sent reports only them.
  record IsKnown (ds : List Deed) (all : List (ℕ × Reply)) (s : Durable D g) : Type 0 where
    sound : IsSound ds (node s)
    backed : AreBacked ds all

  abbrev Known : List Deed → List (ℕ × Reply) → Phase g → Type 0
  Known ds all (Serving s) = IsKnown ds all s
  Known ds all (Stopped hand left right) = AreKnown g ds hand all left right

  state_up : (s : Durable D g) → s.down ≡ false → (node s).state ≡ s.store.state
  state_up s up = cond-false s.down s.before.value s.store.state up

  -- A server that is up and in order is sound.
  sound_up : (s : Durable D g) (ds : List Deed) → s.down ≡ false → AreDone empty_state ds s.store.state
      → IsOrderly s.store.state s.store.soft → IsSound ds (node s)
  sound_up s ds up done orderly = record {
    proper = done.proper;
    after = subst (IsAfter empty_state ds) (sym (state_up s up)) done.after;
    orderly = λ _. subst (λ st. IsOrderly st s.store.soft) (sym (state_up s up)) orderly;
    lost = λ down. absurd (true≢false (sym down ∙ up));
  }

  module _ (ds : List Deed) (s : Durable D g) (sound : IsSound ds (node s)) (up : s.down ≡ false) where
    order_up : IsOrderly s.store.state s.store.soft
    order_up = subst (λ st. IsOrderly st s.store.soft) (state_up s up) (sound.orderly up)

    done_up : AreDone empty_state ds s.store.state
    done_up = record { proper = sound.proper; after = subst (IsAfter empty_state ds) (state_up s up) sound.after }

  -- ---- one thing more in a life

  new_known : (s : Durable D g) → s.store.state ≡ empty_state → s.store.soft ≡ no_asks → s.down ≡ false → IsKnown [] [] s
  new_known s state_is soft_is up = record {
    sound = sound_up s [] up (subst (AreDone empty_state []) (sym state_is) (none_done empty_state empty_is_state))
        (new_store_orderly s.store.state s.store.soft (subst IsState (sym state_is) empty_is_state) soft_is);
    backed = All-nil (λ (send : ℕ × Reply). reports_deed send.1 ≡ true → ReportsOne [] send.0 send.1);
  }

  half_known : (first second left right : D) (result : Made g) (s : Durable D g)
      → PairsSince (two (g.view first) (g.view second)) (disks_then result) (IsNothingOr empty_state)
      → AreLeft g (two (g.view first) (g.view second)) (disks_then result) left right → IsOpenedOn left right s → IsKnown [] [] s
  half_known first second left right result s since are is_open =
      let seen = left_since timed (two (g.view first) (g.view second)) (disks_then result)
      (IsNothingOr empty_state) left right since are (g.view left).seen (g.view right).seen
      (timed left are.honest_left).stays (timed right are.honest_right).stays in
      new_known s (empty_stands (g.view left).seen (g.view right).seen s.store.state is_open.found seen) is_open.soft_is is_open.is_up

  -- A call that ended well did what came.
  did : (old new : Durable D g) (es : List Deed) (sends : List (ℕ × Reply)) → old.down ≡ false
      → new.down ≡ false → Call old new es sends → (xs : List Coming) × IsDone (node old) xs es sends (node new)
  did old new _ _ was_up is_up (handles xs sends all) = (
    xs,
    has_done_it old.before.value new.before.value old.store new.store old.down new.down
        old.lost.items new.lost.items xs all.deeds sends was_up is_up all.happens,
  )
  did old new _ _ was_up is_up (serves ms told served) = (
    comings ms,
    has_done_it old.before.value new.before.value old.store new.store old.down new.down old.lost.items new.lost.items
        (comings ms) told.deeds.items told.sends.items was_up is_up
        (served_happens old.store.state old.store.soft ms told new.store.state new.store.soft served),
  )
  did old new _ _ was_up is_up (closes client sends told same) = (
    hangs_up client ∷ [],
    has_done_it old.before.value new.before.value old.store new.store old.down new.down old.lost.items new.lost.items
        (hangs_up client ∷ []) [] sends was_up is_up
        (one_only old.store.state new.store.state old.store.soft (hangs_up client)
        (record { deed = None; sends = sends; soft = new.store.soft }) (ap only_sends told, same)),
  )
  did old new _ _ was_up is_up (rewrites same) = (
    [],
    has_done_it old.before.value new.before.value old.store new.store old.down new.down old.lost.items new.lost.items [] [] [] was_up is_up
        (ap (λ (t : Store). history_of t.state t.soft [] []) same),
  )

  called_known : (ds es : List Deed) (all sends : List (ℕ × Reply)) (old new : Durable D g)
      → IsKnown ds all old → old.down ≡ false → new.down ≡ false → Call old new es sends
      → IsKnown (ds ++ es) (all ++ sends) new
  called_known ds es all sends old new known was_up is_up call =
      let d = did old new es sends was_up is_up call in
      record {
        sound = works_sound ds (node old) known.sound d.0 (Sent sends) es (node new) d.1;
        backed = All-append (λ (send : ℕ × Reply). reports_deed send.1 ≡ true
            → ReportsOne (ds ++ es) send.0 send.1) all sends (backed_later ds es all known.backed)
            (works_backed ds (node old) known.sound d.0 sends es (node new) d.1);
      }

  went : (old new : Durable D g) → old.down ≡ false → new.down ≡ true → Fall old new → (xs : List Coming) × WentDown (node old) xs (node new)
  went old new up down (at_work xs before remains) = (
    xs,
    has_gone_down old.before.value new.before.value old.store new.store old.down new.down old.lost.items new.lost.items xs down
        (λ was. absurd (true≢false (sym was ∙ up))) (λ _. before) (λ _. remains),
  )
  went old new up down (at_rest before none) = (
    [],
    has_gone_down old.before.value new.before.value old.store new.store old.down new.down old.lost.items new.lost.items [] down
        (λ was. absurd (true≢false (sym was ∙ up))) (λ _. before)
        (λ _. none_remains (node old) [] new.lost.items none),
  )

  fallen_known : (ds : List Deed) (all : List (ℕ × Reply)) (old new : Durable D g) → IsKnown ds all old
      → old.down ≡ false → new.down ≡ true → Fall old new → IsKnown ds all new
  fallen_known ds all old new known up down fall =
      let w = went old new up down fall in
      record {
        sound = subst (λ l. IsSound l (node new)) (append-nil ds) (works_sound ds (node old) known.sound w.0 IsDown [] (node new) (w.1, refl));
        backed = known.backed;
      }

  cut_known : (ds hand : List Deed) (all : List (ℕ × Reply)) (old new : Durable D g) (left right : D)
      → IsKnown ds all old → old.down ≡ false → BothHonest old.disks → Cut old new hand
      → AreLeft g (both_of old.disks) (both_of new.disks) left right → AreKnown g ds hand all left right
  cut_known ds _ all old new left right known up honest (amid_work xs whole happens always) are =
      let orderly = order_up ds old known.sound up in
      let done = done_up ds old known.sound up in
      let safe = all_safe old.store.state old.store.soft xs whole orderly happens in
      record {
        before = old.store.state;
        done = done;
        goes_on = (joined_done empty_state empty_is_state whole.deeds old.store.state whole.state ds done
            (record { proper = safe.proper; after = safe.after })).proper;
        backed = known.backed;
        honest_left = are.honest_left;
        honest_right = are.honest_right;
        there = λ a b la rb. at_work_there old.store xs whole a b orderly happens
            (left_since timed (both_of old.disks) (both_of new.disks) (IsBeforeOrAfter old.store xs) left right (always honest) are a b la rb);
      }
  cut_known ds _ all old new left right known up honest (amid_rest always) are =
      let orderly = order_up ds old known.sound up in
      let done = done_up ds old known.sound up in
      record {
        before = old.store.state;
        done = done;
        goes_on = subst (IsProper empty_state) (sym (append-nil ds)) done.proper;
        backed = known.backed;
        honest_left = are.honest_left;
        honest_right = are.honest_right;
        there = λ a b la rb. with_none old.store.state [] refl orderly.state_is a b
            (left_since timed (both_of old.disks) (both_of new.disks) (StandsFor old.store.state) left right (always honest) are a b la rb);
      }

  -- Between two calls, or while it is down.
  module _ (ds : List Deed) (all : List (ℕ × Reply)) (s : Durable D g) (left right : D) (known : IsKnown ds all s) (honest : BothHonest s.disks)
      (are : AreLeft g (both_of s.disks) (both_of s.disks) left right) where
    stopped_at : (base : State) → AreDone empty_state ds base → IsProper empty_state (ds ++ s.lost.items)
        → PairsNow (both_of s.disks) (IsWithOrWithout base s.lost.items) → AreKnown g ds s.lost.items all left right
    stopped_at base done goes_on now = record {
      before = base;
      done = done;
      goes_on = goes_on;
      backed = known.backed;
      honest_left = are.honest_left;
      honest_right = are.honest_right;
      there = left_now timed s.disks (IsWithOrWithout base s.lost.items) left right honest now are;
    }

    stopped_known : AreKnown g ds s.lost.items all left right
    stopped_known =
        elim (cases_Bool s.down) [
          | inl down ↦
              let after = subst (IsAfter empty_state ds) (cond-true s.down s.before.value s.store.state down) known.sound.after in
              stopped_at s.before.value (record { proper = known.sound.proper; after = after }) (known.sound.lost down) (s.fallen down honest)
          | inr up ↦
              let done = done_up ds s known.sound up in
              let none = subst (IsProper empty_state) (sym (append-nil ds)) done.proper in
              stopped_at s.store.state done (subst (λ l. IsProper empty_state (ds ++ l)) (sym (s.none_lost up)) none)
              (stands_with timed s.disks s.store.state s.lost.items (s.none_lost up)
              (order_up ds s known.sound up).state_is honest (s.kept up))
        ]

  -- The state that the disks represent as they read.
  module _ (ds hand : List Deed) (all : List (ℕ × Reply)) (left right : D) (known : AreKnown g ds hand all left right) where
    seen : IsWithOrWithout known.before hand (g.view left).seen (g.view right).seen
    seen = known.there (g.view left).seen (g.view right).seen (timed left known.honest_left).stays (timed right known.honest_right).stays

    found_after : (st : State) → Stands (g.view left).seen (g.view right).seen st → IsAfter known.before (found_of st hand) st
    found_after st stands =
        reopened known.before st hand (g.view left).seen (g.view right).seen (has_done st hand) refl seen stands

    found_done : (st : State) → Stands (g.view left).seen (g.view right).seen st → AreDone empty_state (ds ++ found_of st hand) st
    found_done st stands = record {
      proper = found_proper ds hand (has_done st hand) known.done.proper known.goes_on;
      after = joined_after empty_state known.before st ds (found_of st hand) known.done.after
          (found_after st stands) (takes_below empty_state ds empty_is_state known.done.proper);
    }

    all_ready : AreReady g ds hand all left right
    all_ready = record { backed = known.backed; ready = ∥∥₁_map seen which }
      where
        which : StandsAround known.before hand (g.view left).seen (g.view right).seen → IsReady ds hand (g.view left).seen (g.view right).seen
        which around =
            elim around.stands [
              | inl stands ↦ record { state = known.before; stands = stands; done = found_done known.before stands }
              | inr stands ↦ record { state = around.new; stands = stands; done = found_done around.new stands }
            ]

    opened_known : (s : Durable D g) → IsOpenedOn left right s → IsKnown (ds ++ found_of s.store.state hand) all s
    opened_known s is_open =
        let done = found_done s.store.state is_open.found in
        let is = proper_state empty_state s.store.state (ds ++ found_of s.store.state hand) empty_is_state done.proper done.after in
        record {
          sound = sound_up s (ds ++ found_of s.store.state hand) is_open.is_up done (new_store_orderly s.store.state s.store.soft is is_open.soft_is);
          backed = backed_later ds (found_of s.store.state hand) all known.backed;
        }

  -- ---- every life

  known_of : (ds : List Deed) (all : List (ℕ × Reply)) (phase : Phase g) → Life ds all phase → Known ds all phase
  known_of _ _ _ (made s new) = new_known s (ap (λ (t : Store). t.state) new.store) (ap (λ (t : Store). t.soft) new.store) new.is_up
  known_of _ _ _ (half_made first second left right result s honest_first honest_second since are is_open) =
      half_known first second left right result s since are is_open
  known_of _ _ _ (called ds es all sends old new life was_up is_up call) =
      called_known ds es all sends old new (known_of ds all (Serving old) life) was_up is_up call
  known_of _ _ _ (fell ds all old new life up down fall) = fallen_known ds all old new (known_of ds all (Serving old) life) up down fall
  known_of _ _ _ (cut ds hand all old new left right life up honest call are) =
      cut_known ds hand all old new left right (known_of ds all (Serving old) life) up honest call are
  known_of _ _ _ (stopped ds all s left right life honest are) = stopped_known ds all s left right (known_of ds all (Serving s) life) honest are
  known_of _ _ _ (opened ds hand all left right s life is_open) = opened_known ds hand all left right (known_of ds all (Stopped hand left right) life) s is_open
  known_of _ _ _ (not_opened ds hand all first second left right result life no_other are) =
      let known : AreKnown g ds hand all first second = known_of ds all (Stopped hand first second) life in
      record {
        before = known.before;
        done = known.done;
        goes_on = known.goes_on;
        backed = known.backed;
        honest_left = are.honest_left;
        honest_right = are.honest_right;
        there = λ a b la rb. known.there a b (no_other.left.each a (are.left_was a la)) (no_other.right.each b (are.right_was b rb));
      }

  -- A server after a life keeps its word.
  pub keeps : (s : Durable D g) (ds : List Deed) (all : List (ℕ × Reply)) → Life ds all (Serving s) → KeepsItsWord ds all s
  keeps s ds all life =
      let known : IsKnown ds all s = known_of ds all (Serving s) life in
      let done : AreDone empty_state ds (node s).state = record { proper = known.sound.proper; after = known.sound.after } in
      record {
        done = done;
        ranges = proper_state empty_state (node s).state ds empty_is_state known.sound.proper known.sound.after;
        once = taken_once empty_state ds empty_is_state known.sound.proper;
        backed = known.backed;
        covered = all_covered ds (node s).state done all known.backed;
        again = λ up c n kept m all there bears happens.
            answered_as_kept s.store.state c n kept (order_up ds s known.sound up).state_is there s.store.soft m all bears happens;
      }

  -- Two disks after a life without a server are ready to be opened.
  pub are_ready : (left right : D) (ds hand : List Deed) (all : List (ℕ × Reply))
      → Life {g = g} ds all (Stopped hand left right) → AreReady g ds hand all left right
  are_ready left right ds hand all life = all_ready ds hand all left right (known_of ds all (Stopped hand left right) life)

  -- An opening frees what was held.
  pub frees : (s : Durable D g) (left right : D) (ds hand : List Deed) (all : List (ℕ × Reply))
      → Life {g = g} ds all (Stopped hand left right) → IsOpenedOn left right s → IsFreed ds hand all s
  frees s left right ds hand all life is_open =
      let known : AreKnown g ds hand all left right = known_of ds all (Stopped hand left right) life in
      record {
        nobody = is_open.soft_is;
        back = λ old id life_then up held free.
            let was : IsKnown ds all old = known_of ds all (Serving old) life_then in
            let orderly = order_up ds old was.sound up in
            let same : known.before ≡ old.store.state =
            one_after empty_state ds known.before old.store.state known.done.after (done_up ds old was.sound up).after in
            still_there old.store.state s.store.state (found_of s.store.state hand) id orderly.state_is
            (subst (λ st. IsAfter st (found_of s.store.state hand) s.store.state) same
            (found_after ds hand all left right known s.store.state is_open.found)) free (orderly.soft_is.there id held);
      }

  -- ---- one call

  -- A call that was cut off, of a server in order.
  abbrev IsCut : Durable D g → Durable D g → Type 0
  IsCut old new = IsOrderly old.store.state old.store.soft → (hand : List Deed) × Cut old new hand

  pub cut_at_work : (old new : Durable D g) (xs : List Coming) → AlwaysLeave old.disks new.disks (IsBeforeOrAfter old.store xs) → IsCut old new
  cut_at_work old new xs always orderly =
      let whole = outcome_of old.store.state old.store.soft xs orderly in
      (whole.0.deeds, amid_work xs whole.0 whole.1 always)

  goes_on_so : {T E : Type 0} (sends_of : T → List (ℕ × Reply)) (old new : Durable D g) (r : Result T E)
      → ((ds : List Deed) (all : List (ℕ × Reply)) → Life ds all (Serving old)
      → IfOk r (λ told. (es : List Deed) × Life (ds ++ es) (all ++ sends_of told) (Serving new)))
      → ((ds : List Deed) (all : List (ℕ × Reply)) → Life ds all (Serving old) → OnErr r (Life ds all (Serving new)))
      → (old.down ≡ false → IsCut old new) → GoesOn sends_of old r new
  goes_on_so sends_of old new r ok err cut_off = record {
    ok = ok;
    err = err;
    cut = λ ds all left right life up honest are.
        let known : IsKnown ds all old = known_of ds all (Serving old) life in
        let c = cut_off up (order_up ds old known.sound up) in
        (c.0, cut ds c.0 all old new left right life up honest c.1 are);
  }

  -- It ended well,
  pub goes_on_well : {T E : Type 0} (sends_of : T → List (ℕ × Reply)) (old new : Durable D g) (es : List Deed) (told : T)
      → old.down ≡ false → new.down ≡ false → Call old new es (sends_of told)
      → (old.down ≡ false → IsCut old new) → GoesOn {E = E} sends_of old (Ok told) new
  goes_on_well {T} {E} sends_of old new es told was_up is_up call cut_off =
      goes_on_so {T = T} {E = E} sends_of old new (Ok told)
      (λ ds all life. (es, called ds es all (sends_of told) old new life was_up is_up call)) (λ ds all life. tt) cut_off

  -- or with a fault.
  pub goes_on_still : {T E : Type 0} (sends_of : T → List (ℕ × Reply)) (old new : Durable D g) (e : E)
      → (new ≡ old) ⊎ ((old.down ≡ false) × (new.down ≡ true) × Fall old new)
      → (old.down ≡ false → IsCut old new) → GoesOn {T = T} sends_of old (Err e) new
  goes_on_still {T} {E} sends_of old new e how cut_off = goes_on_so {T = T} {E = E} sends_of old new (Err e) (λ ds all life. tt) err cut_off
    where
      err : (ds : List Deed) (all : List (ℕ × Reply)) → Life ds all (Serving old) → Life ds all (Serving new)
      err ds all life =
          elim how [
            | inl same ↦ subst (λ s. Life ds all (Serving s)) (sym same) life
            | inr went ↦ fell ds all old new life went.0 went.1 went.2
          ]

  -- It made no device call, and answered nothing.
  pub stays_on : (old new : Durable D g) → (old.down ≡ true → new ≡ old)
      → (old.down ≡ false → (new.down ≡ true) × (new.before.value ≡ old.store.state) × (new.lost.items ≡ [])) → StaysOn old new
  stays_on old new same went ds all life = by old.down refl
    where
      by : (b : Bool) → old.down ≡ b → Life ds all (Serving new)
      by true down = subst (λ s. Life ds all (Serving s)) (sym (same down)) life
      by false up = let so = went up in fell ds all old new life up so.0 (at_rest so.1 so.2)

  -- It took messages, ended well or with a fault.
  pub serves_on : (old new : Durable D g) (ms : List (ℕ × Message)) (r : Result Served ServeFault) → old.down ≡ false
      → IfOk r (λ served. IsServed old.store.state old.store.soft ms served new.store.state new.store.soft)
      → OnOk r (new.down ≡ false) → OnErr r (new.down ≡ true)
      → new.before.value ≡ old.store.state
      → (new.down ≡ true → MayRemain (shown old.before.value old.store old.down old.lost.items) (comings ms) new.lost.items)
      → AlwaysLeave old.disks new.disks (IsBeforeOrAfter old.store (comings ms)) → GoesOn (λ (served : Served). served.sends.items) old r new
  serves_on old new ms (Ok served) was_up done up down before lost always =
      goes_on_well (λ (told : Served). told.sends.items) old new served.deeds.items served was_up up
      (serves ms served done) (λ _. cut_at_work old new (comings ms) always)
  serves_on old new ms (Err fault) was_up done up down before lost always =
      goes_on_still (λ (told : Served). told.sends.items) old new fault
      (inr (was_up, down, at_work (comings ms) before (lost down))) (λ _. cut_at_work old new (comings ms) always)
