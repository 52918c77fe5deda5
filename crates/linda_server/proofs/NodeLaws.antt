-- What a durable server answers as a node.
use Rattle.std.proofs.Common.{◌≡◌, ◌≢◌, ℕ, inl, inr, Bool, true, false, List, [], ◌∷◌, ◌++◌, length, Result, Ok, Err}
use Rattle.std.proofs.Common.{IfOk, OnOk, OnErr, IsErrOf, None, refl, sym, ap, ◌∙◌, subst, append-nil, arith}
use Rattle.std.proofs.lemmas.Bool.{cond-true, cond-false}
use Rattle.std.proofs.lemmas.List.Elements.{All-nil}
use Rattle.linda_tuple.specs.declared.form.Form.{Form}
use Rattle.std.specs.Global.{Vec}
use Rattle.linda_wire.specs.declared.reply.Reply.{Reply}
use Rattle.linda_store_state.specs.declared.deed.Deed.{Deed}
use Rattle.linda_store_state.specs.DeedFormat.{SuitsForm}
use Rattle.linda_store_state.specs.State.{State}
use Rattle.linda_store_state.specs.After.{IsAfter}
use Rattle.linda_store_step.specs.Store.{Store}
use Rattle.linda_store_step.specs.Dispatch.{on_close}
use Rattle.linda_store_step.specs.Answer.{only_sends}
use Rattle.linda_store_step.proofs.GrowthLaws.{one_only}
use Rattle.linda_store_step.specs.History.{hangs_up, Coming, History, Happens, history_of}
use Rattle.linda_store.specs.declared.node.NodeFault.{NodeFault}
use Rattle.linda_store.specs.declared.node.NodeFault.TheVariants as faults
use Rattle.linda_store.specs.Node.{Node, node_answer, MayRemain, IsDone, HadNoRoom, WentDown, Works, Closes, Snaps, IsOpened, Stops}
use Rattle.linda_server.specs.Calls.{HasHandled, IsTooMuch}
use Rattle.linda_server.specs.Node.{shown}
use Rattle.linda_server.specs.Reopening.{IsReopened}
use Rattle.linda_server.proofs.CallLaws.{none_remains}

by_bool : {P : Type 0} (b : Bool) → (b ≡ true → P) → (b ≡ false → P) → P
by_bool true at_true at_false = at_true refl
by_bool false at_true at_false = at_false refl

-- A fault is one of the two.
abbrev is_told_down : {A : Type 0} → Result A NodeFault → Type 0
is_told_down (Ok x) = ⊥
is_told_down (Err faults.Full) = ⊥
is_told_down (Err faults.Down) = Unit {0}

not_both : {A : Type 0} (r : Result A NodeFault) → r ≡ Err faults.Down → r ≡ Err faults.Full → ⊥
not_both r down full = subst is_told_down (sym down ∙ full) tt

-- A server before a call and after it.
module _ (before after : State) (old new : Store) (was_down is_down : Bool) (lost still_lost : List Deed) where
  abbrev Old : Node
  Old = shown before old was_down lost

  abbrev New : Node
  New = shown after new is_down still_lost

  state_of_old : was_down ≡ false → Old.state ≡ old.state
  state_of_old up = cond-false was_down _ _ up

  state_of_new : is_down ≡ false → New.state ≡ new.state
  state_of_new up = cond-false is_down _ _ up

  -- What came was done.
  pub has_done_it : (xs : List Coming) (ds : List Deed) (sends : List (ℕ × Reply)) → was_down ≡ false
      → is_down ≡ false → Happens old.state old.soft xs (history_of new.state new.soft ds sends)
      → IsDone Old xs ds sends New
  has_done_it xs ds sends was_up is_up happens = record {
    was_up = was_up;
    is_up = is_up;
    kind = refl;
    happens = subst (λ s. Happens s old.soft xs (history_of New.state new.soft ds sends)) (sym (state_of_old was_up))
        (subst (λ s. Happens old.state old.soft xs (history_of s new.soft ds sends)) (sym (state_of_new is_up)) happens);
  }

  -- It is down.
  pub has_gone_down : (xs : List Coming) → is_down ≡ true → (was_down ≡ true → New ≡ Old)
      → (was_down ≡ false → after ≡ old.state) → (was_down ≡ false → MayRemain Old xs still_lost)
      → WentDown Old xs New
  has_gone_down xs down same before_is remains = record {
    is_down = down;
    kind = refl;
    state_same = by_bool was_down (λ d. ap (λ (n : Node). n.state) (same d)) (λ up. cond-true is_down _ _ down ∙ before_is up ∙ sym (state_of_old up));
    from_up = remains;
    from_down = same;
  }

  -- An answer to what came.
  module _ (form : Form) (end limit : ℕ) (xs : List Coming) (r : Result (Vec (ℕ × Reply)) NodeFault)
      (done : IfOk r (λ sends. HasHandled old xs sends.items new))
      (up : OnOk r ((was_down ≡ false) × (is_down ≡ false)))
      (full : IsErrOf r faults.Full → New ≡ Old)
      (room : IsErrOf r faults.Full → (all : History) → Happens old.state old.soft xs all → IsTooMuch form end limit all.deeds)
      (down : IsErrOf r faults.Down → is_down ≡ true)
      (stays : was_down ≡ true → IsErrOf r faults.Down × (New ≡ Old))
      (before_is : was_down ≡ false → is_down ≡ true → after ≡ old.state)
      (remains : was_down ≡ false → is_down ≡ true → MayRemain Old xs still_lost) where
    some_deeds : (ds : List Deed) → IsTooMuch form end limit ds → ds ≢ []
    some_deeds [] (inl unspelled) none = unspelled (All-nil (SuitsForm form))
    some_deeds [] (inr some) none = absurd (omega (arith, some.0))
    some_deeds (d ∷ ds) much none = absurd (nothing_there d ds none)
      where
        nothing_there : (d : Deed) (ds : List Deed) → d ∷ ds ≡ [] → ⊥
        nothing_there d ds same = let long = ap length same in omega (arith, long)

    no_room : IsErrOf r faults.Full → HadNoRoom Old xs New
    no_room e =
        let was_up : was_down ≡ false = by_bool was_down (λ d. absurd (not_both r (stays d).0 e)) (λ u. u) in
        record {
          was_up = was_up;
          kind = refl;
          deeds = λ all happens. some_deeds all.deeds (room e all (subst (λ s. Happens s old.soft xs all) (state_of_old was_up) happens));
          unchanged = full e;
        }

    pub works : (ds : List Deed) × Works Old xs (node_answer r) ds New
    works = by r refl
      where
        by : (q : Result (Vec (ℕ × Reply)) NodeFault) → r ≡ q → (ds : List Deed) × Works Old xs (node_answer q) ds New
        by (Ok sends) e =
            let handled : HasHandled old xs sends.items new = subst (λ q. IfOk q (λ s. HasHandled old xs s.items new)) e done in
            let ups : (was_down ≡ false) × (is_down ≡ false) = subst (λ q. OnOk q ((was_down ≡ false) × (is_down ≡ false))) e up in
            (handled.deeds, has_done_it xs handled.deeds sends.items ups.0 ups.1 handled.happens)
        by (Err faults.Full) e = ([], (no_room e, refl))
        by (Err faults.Down) e = ([], (has_gone_down xs (down e) (λ d. (stays d).1) (λ u. before_is u (down e)) (λ u. remains u (down e)), refl))

  -- The closing of a client.
  pub closes : (client : ℕ) (r : Result (Vec (ℕ × Reply)) NodeFault)
      → IfOk r (λ sends. record { sends = sends.items; soft = new.soft } ≡ on_close old.state.bag client old.soft) → new.state ≡ old.state
      → OnOk r ((was_down ≡ false) × (is_down ≡ false)) → (IsErrOf r faults.Full → ⊥)
      → (IsErrOf r faults.Down → is_down ≡ true) → (was_down ≡ true → IsErrOf r faults.Down × (New ≡ Old))
      → (was_down ≡ false → is_down ≡ true → after ≡ old.state) → (was_down ≡ false → is_down ≡ true → MayRemain Old (hangs_up client ∷ []) still_lost)
      → Closes Old client (node_answer r) New
  closes client (Ok sends) done same up full down stays before_is remains =
      has_done_it (hangs_up client ∷ []) [] sends.items up.0 up.1
      (one_only old.state new.state old.soft (hangs_up client) (record { deed = None; sends = sends.items; soft = new.soft }) (ap only_sends done, same))
  closes client (Err faults.Full) done same up full down stays before_is remains = absurd (full refl)
  closes client (Err faults.Down) done same up full down stays before_is remains =
      has_gone_down (hangs_up client ∷ []) (down refl) (λ d. (stays d).1) (λ u. before_is u (down refl)) (λ u. remains u (down refl))

  -- A snapshot.
  pub snaps : (r : Result (Unit {0}) NodeFault) → new ≡ old → (was_down ≡ false → lost ≡ [])
      → (is_down ≡ false → still_lost ≡ []) → OnOk r ((was_down ≡ false) × (is_down ≡ false))
      → (IsErrOf r faults.Full → New ≡ Old) → (IsErrOf r faults.Down → is_down ≡ true) → (was_down ≡ true → IsErrOf r faults.Down × (New ≡ Old))
      → (was_down ≡ false → is_down ≡ true → (after ≡ old.state) × (still_lost ≡ [])) → Snaps Old r New
  snaps (Ok done) same none still_none up full down stays falls = (up.0, by_up up.0 up.1)
    where
      by_up : was_down ≡ false → is_down ≡ false → New ≡ Old
      by_up u v =
          let states = state_of_new v ∙ ap (λ (s : Store). s.state) same ∙ sym (state_of_old u) in
          let softs = ap (λ (s : Store). s.soft) same in
          λ i. record { state = states i; soft = softs i; is_down = (v ∙ sym u) i; may_fill = true; lost = (still_none v ∙ sym (none u)) i }
  snaps (Err faults.Full) same none still_none up full down stays falls =
      (by_bool was_down (λ d. absurd (not_both (Err faults.Full) (stays d).0 refl)) (λ u. u), (refl, full refl))
  snaps (Err faults.Down) same none still_none up full down stays falls =
      has_gone_down [] (down refl) (λ d. (stays d).1) (λ u. (falls u (down refl)).0) (λ u. none_remains Old [] still_lost (falls u (down refl)).1)

  -- A stop: the state before it, the deeds that it may have cut off, and those that were added.
  module _ (xs : List Coming) (base : State) (cut : List Deed)
      (base_up : was_down ≡ false → base ≡ old.state) (base_down : was_down ≡ true → base ≡ before)
      (remains : was_down ≡ false → MayRemain Old xs cut) (cut_down : was_down ≡ true → cut ≡ lost) where
    base_is : base ≡ Old.state
    base_is = by_bool was_down (λ d. base_down d ∙ sym (cond-true was_down _ _ d)) (λ u. base_up u ∙ sym (state_of_old u))

    opened : (ds : List Deed) → is_down ≡ false → IsReopened base cut ds new → IsOpened Old xs ds New
    opened ds is_up reopened = record {
      is_up = is_up;
      kind = refl;
      soft_is = reopened.soft_is;
      from_up = λ u. elim reopened.which [
        | inl none ↦ none_remains Old xs ds none
        | inr all ↦ subst (MayRemain Old xs) (sym all) (remains u)
      ];
      from_down = λ d. elim reopened.which [
        | inl none ↦ (lost, ap (λ l. l ++ lost) none)
        | inr all ↦ ([], append-nil ds ∙ all ∙ cut_down d)
      ];
      state_is = subst (λ s. IsAfter Old.state ds s) (sym (state_of_new is_up)) (subst (λ s. IsAfter s ds new.state) base_is reopened.after);
    }

    same_node : (mid : Store) → was_down ≡ true → new ≡ mid → mid ≡ old → is_down ≡ true → after ≡ base → still_lost ≡ cut → New ≡ Old
    same_node mid d same was down after_is lost_is i =
        shown ((after_is ∙ base_down d) i) ((same ∙ was) i) ((down ∙ sym d) i) ((lost_is ∙ cut_down d) i)

    still_down : (mid : Store) → (was_down ≡ true → mid ≡ old) → (is_down ≡ true) × (after ≡ base) × (new ≡ mid) × (still_lost ≡ cut) → WentDown Old xs New
    still_down mid was so =
        has_gone_down xs so.0 (λ d. same_node mid d so.2 (was d) so.0 so.1 so.3) (λ u. so.1 ∙ base_up u) (λ u. subst (MayRemain Old xs) (sym so.3) (remains u))

    pub stops : (mid : Store) (r : Result (Vec Deed) NodeFault) → (was_down ≡ true → mid ≡ old)
        → IfOk r (λ ds. IsReopened base cut ds.items new) → OnOk r (is_down ≡ false)
        → OnErr r ((is_down ≡ true) × (after ≡ base) × (new ≡ mid) × (still_lost ≡ cut)) → (IsErrOf r faults.Full → ⊥) → Stops Old xs r New
    stops mid (Ok ds) was reopened up down full = opened ds.items up reopened
    stops mid (Err faults.Full) was reopened up down full = absurd (full refl)
    stops mid (Err faults.Down) was reopened up down full = still_down mid was down
