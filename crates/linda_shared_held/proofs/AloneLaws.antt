-- Messages that go one by one.
use Rattle.std.proofs.Common.{◌≡◌, ℕ, ◌+◌, ◌≤◌, Bool, true, false, true≢false, cond, List, [], ◌∷◌, ◌++◌, map, length}
use Rattle.std.proofs.Common.{Option, Some, None, option_to_list, refl, sym, ap, ◌∙◌, subst, append-nil, append_assoc}
use Rattle.std.proofs.Common.{length-append, arith, rules, ◌<◌, ◌^◌, ◌⊎◌, inl, inr, Ok, Err}
use Rattle.std.proofs.lemmas.List.{map-append}
use Rattle.std.proofs.lemmas.List.Elements.{All-nil, All-cons}
use Rattle.linda_wire.specs.declared.message.Message.{Message}
use Rattle.linda_wire.specs.declared.reply.Reply.{Reply}
use Rattle.linda_wire.specs.declared.refusal.Refusal.{Refusal}
use Rattle.linda_wire.specs.Refusal.{refused}
use Rattle.linda_store_state.specs.State.{State, IsState}
use Rattle.linda_store_state.specs.Proper.{AreDone}
use Rattle.linda_store_step.specs.Soft.{Soft}
use Rattle.linda_store_step.specs.Answer.{Answer, last_number}
use Rattle.linda_store_step.specs.Reported.{number_of_message, comes_next, deed_behind}
use Rattle.linda_store_step.proofs.ReportLaws.{step_reported}
use Rattle.linda_store_state.specs.declared.deed.Deed.{Deed}
use Rattle.linda_shared_accounts.specs.declared.receipt.Receipt.{Receipt}
use Rattle.linda_shared_accounts.specs.Receipts.{deeds_in, AreTrue}
use Rattle.linda_shared_accounts.specs.Telling.{receipt_for, receipt_of, receipts_in, HasTold}
use Rattle.linda_shared_held.specs.Order.{IsInOrder}
use Rattle.linda_store_step.specs.Covered.{IsCovered}
use Rattle.std.specs.Global.{Vec}
use Rattle.linda_wire.specs.declared.refusal.Refusal.TheVariants as refusals
use Rattle.linda_disk.specs.declared.disk.Disk.{Ghosts}
use Rattle.linda_server.specs.declared.durable.Durable.{Durable}
use Rattle.linda_server.specs.Handled.{HasNoRoomFor}
use Rattle.linda_shared_accounts.specs.declared.fault.SharedFault.{SharedFault}
use Rattle.linda_shared_accounts.specs.declared.fault.SharedFault.TheVariants as faults
use Rattle.linda_shared_held.specs.Covered.{BoxesCovered}
use Rattle.linda_shared_held.specs.Posted.{GoTogether, IsWhy}
use Rattle.linda_shared_held.specs.Kept.{Kept, known_of, IsKnownStill, InOrder, KeepCovered, Keeps, KeepsAll, ServesAll, TakesOne, TurnsAway}
use Rattle.linda_shared_held.proofs.KeptLaws.{IsStill, all_same, still_order, still_covered, stays_in_order, all_stays}
use Rattle.linda_shared_outbox.specs.declared.outboxes.Outboxes.{Outboxes}
use Rattle.linda_shared_outbox.specs.Waiting.{waits_for}
use Rattle.linda_shared_held.proofs.CoveredLaws.{boxes_more}
use Rattle.linda_shared_outbox.specs.Replies.{replies_to, with_more}

-- There are no more receipts than messages.
pub receipts_few : (os : List (Option Receipt)) → length (receipts_in os) ≤ length os
receipts_few [] = omega arith
receipts_few (None ∷ os) =
    let rest = receipts_few os in
    omega (arith, rest)
receipts_few (Some r ∷ os) =
    let rest = receipts_few os in
    omega (arith, rest)

-- The receipts of one message more.
pub receipts_more : (os : List (Option Receipt)) (o : Option Receipt) → receipts_in (os ++ o ∷ []) ≡ receipts_in os ++ receipts_in (o ∷ [])
receipts_more [] o = refl
receipts_more (q ∷ os) o = ap (λ l. option_to_list q ++ l) (receipts_more os o) ∙ sym (append_assoc (option_to_list q) (receipts_in os) (receipts_in (o ∷ [])))

-- A message whose number is not the next one makes no deed.
none_made : (st : State) (soft : Soft) (m : ℕ × Message) (told : List (Option Receipt)) (sends : List (ℕ × Reply)) (new : State) (behind : Soft)
    → IsState st → comes_next (number_of_message m.1) (last_number st m.0) ≡ false → HasTold st soft (m ∷ []) told sends new behind → receipts_in told ≡ []
none_made st soft m told sends new behind is old has =
    let a : Answer = has.answered.0 in
    let mid : State = has.answered.1.0 in
    let later : List Answer = has.answered.1.1.0 in
    let deed : a.deed ≡ None = step_reported st mid m.0 soft m.1 a is has.answered.1.1.1.0 ∙ ap (λ b. cond b (deed_behind m.0 m.1 a.sends) None) old in
    let all : has.answers ≡ a ∷ [] = has.answered.1.1.1.1.1 ∙ ap (λ (l : List Answer). a ∷ l) has.answered.1.1.1.1.0.0 in
    ap receipts_in (has.told_is ∙ ap (map receipt_of) all) ∙ ap (λ (o : Option Deed). option_to_list (receipt_for o a.sends) ++ []) deed

take_true : (st : State) (ds : List Deed) (rs qs : List Receipt) → AreTrue st ds (rs ++ qs) → AreTrue st ds rs
take_true st ds [] qs are = tt
take_true st ds (r ∷ rs) qs are = (are.0, take_true st (ds ++ r.deed ∷ []) rs qs are.1)

-- While the server is down, the last receipts can be taken back: their deeds count as not reported.
takes_back : (opening base : State) (rs qs : List Receipt) (count : ℕ) (st : State)
    → IsInOrder opening base (rs ++ qs) (count + length qs) true st → IsInOrder opening base rs count true st
takes_back opening base rs qs count st so =
    let long = length-append rs qs in
    let counted = so.counted in
    record {
      ranges = so.ranges;
      earlier = so.earlier;
      to_base = so.to_base;
      untold = deeds_in qs ++ so.untold;
      to_state = subst (λ l. AreDone base l st) (ap (λ l. l ++ so.untold) (map-append (λ (r : Receipt). r.deed) rs qs)
          ∙ append_assoc (deeds_in rs) (deeds_in qs) so.untold) so.to_state;
      none_untold = λ up. absurd (true≢false up);
      replies = take_true base [] rs qs so.replies;
      counted = omega (arith, counted, long);
    }

-- While the server is down, the last receipts can be taken back, for a server that is given by its fields.
took_back : (opening base : State) (rs0 rs1 rs2 qs : List Receipt) (count : ℕ) (is_down : Bool) (st : State) → is_down ≡ true → rs1 ≡ rs0 ++ qs → rs2 ≡ rs0
    → IsInOrder opening base rs1 (count + length qs) is_down st → IsInOrder opening base rs2 count is_down st
took_back opening base rs0 rs1 rs2 qs count false st is more back so = absurd (true≢false (sym is))
took_back opening base rs0 rs1 rs2 qs count true st is more back so =
    subst (λ l. IsInOrder opening base l count true st) (sym back)
    (takes_back opening base rs0 qs count st (subst (λ l. IsInOrder opening base l (count + length qs) true st) more so))

-- A refusal reports no deed.
pub refusal_covered : (client : ℕ) (refusal : Refusal) (old new : Outboxes)
    → ((c : ℕ) → waits_for new c ≡ with_more (replies_to c ((client, refused refusal) ∷ [])) (waits_for old c)) → KeepCovered old new
refusal_covered client refusal old new posted st covered =
    boxes_more st st ((client, refused refusal) ∷ []) (λ q. waits_for old q) (λ q. waits_for new q) (λ send is. is)
    (All-cons (IsCovered st) (client, refused refusal) [] (λ reports. absurd (true≢false (sym reports))) (All-nil (IsCovered st))) posted covered

-- What can be counted: it makes no deed, or the count is not at its last value.
abbrev pub CanCount : State → ℕ → ℕ × Message → Type 0
CanCount st count m = (IsState st × (comes_next (number_of_message m.1) (last_number st m.0) ≡ false)) ⊎ (count + 1 < 2 ^ 64)

module _ {D : Type 0} {g : Ghosts D} where
  -- ---- one message by itself

  -- It was refused.
  pub refused_one : {old new : Kept D g} {count : ℕ} {m : ℕ × Message} (refusal : Refusal)
      → new.receipts ≡ old.receipts → IsWhy old.server count m refusal → count < 2 ^ 64
      → TurnsAway old.server old.boxes m.0 refusal (Ok tt) new.server new.boxes → TakesOne old count m (Ok None) new
  refused_one {old} {new} {count} {m} refusal same why fits turned = record {
    keeps = record {
      receipts = same ∙ sym (append-nil old.receipts);
      err = tt;
      down = λ e. search (rules, e);
      memory = λ e. search (rules, e);
      ok_order = λ opening base n so.
          let here : IsInOrder opening base old.receipts n new.server.down (known_of new.server) = still_order old.server new.server turned.still so in
          subst (λ l. IsInOrder opening base l (n + 0) new.server.down (known_of new.server)) (sym same)
          (subst (λ k. IsInOrder opening base old.receipts k new.server.down (known_of new.server)) (omega arith) here);
      err_order = λ opening base n so. tt;
      covered = λ opening base n so covered. still_covered old.server new.server old.boxes new.boxes turned.still turned.covered covered;
    };
    done = inr (record { refusal = refusal; why = why; none_told = refl; posted_is = turned.posted; same = turned.same });
    countable = omega (arith, fits);
    still = ap (λ s. s.down) turned.same;
    err = tt;
  }

  -- The server has no room for it, and it was refused.
  pub full_one : {old mid new : Kept D g} {count : ℕ} {m : ℕ × Message} {ms : List (ℕ × Message)} {fault : SharedFault}
      → ServesAll old ms (Err fault) mid → ms ≡ m ∷ [] → fault ≡ faults.Full → new.receipts ≡ mid.receipts
      → count < 2 ^ 64 → TurnsAway mid.server mid.boxes m.0 refusals.Full (Ok tt) new.server new.boxes → TakesOne old count m (Ok None) new
  full_one {old} {mid} {new} {count} {m} {ms} serves only is_full same fits turned =
      let full = serves.full (ap Err is_full) in
      let lacks : HasNoRoomFor old.server (m ∷ []) = subst (λ l. HasNoRoomFor old.server l) only full.2 in
      subst (λ k. TakesOne k count m (Ok None) new) (all_same full.0 serves.keeps.err full.1)
      (refused_one refusals.Full same (inl (refl, subst (λ s. HasNoRoomFor s (m ∷ [])) (sym full.0) lacks)) fits turned)

  -- It failed, and the server is given up.
  pub failed_one : {old mid : Kept D g} {t : Durable D g} {count : ℕ} {m : ℕ × Message} {ms : List (ℕ × Message)} {fault : SharedFault}
      → ServesAll old ms (Err fault) mid → IsKnownStill mid.server t → t.down ≡ true
      → TakesOne old count m (Err faults.Down) (record { server = t; receipts = mid.receipts; boxes = mid.boxes })
  failed_one {old} {mid} {t} serves still down =
      let new : Kept D g = record { server = t; receipts = mid.receipts; boxes = mid.boxes } in
      let same : IsStill mid new = record { known = still; receipts = refl; boxes = λ q. refl } in
      record {
        keeps = record {
          receipts = tt;
          err = serves.keeps.err;
          down = λ e. down;
          memory = λ e. search (rules, e);
          ok_order = λ opening base n so. tt;
          err_order = λ opening base n so. stays_in_order same opening base n (serves.keeps.err_order opening base n so);
          covered = λ opening base n so covered. all_stays same (serves.keeps.covered opening base n so covered);
        };
        done = tt;
        countable = tt;
        still = tt;
        err = (down, serves.nothing);
      }

  -- It was answered.
  pub answered_one : {old new : Kept D g} {count : ℕ} {m : ℕ × Message} {ms : List (ℕ × Message)} {told : Vec (Option Receipt)} {one : Option Receipt}
      → ServesAll old ms (Ok told) new → ms ≡ m ∷ [] → told.items ≡ one ∷ []
      → count < 2 ^ 64 → CanCount old.server.store.state count m → TakesOne old count m (Ok one) new
  answered_one {old} {new} {count} {m} {ms} {told} {one} serves only is fits can =
      let went : GoTogether old.server (m ∷ []) (one ∷ []) (λ q. waits_for old.boxes q) (λ q. waits_for new.boxes q) new.server =
      subst (λ l. GoTogether old.server (m ∷ []) l (λ q. waits_for old.boxes q) (λ q. waits_for new.boxes q) new.server) is
      (subst (λ l. GoTogether old.server l told.items (λ q. waits_for old.boxes q) (λ q. waits_for new.boxes q) new.server) only serves.done) in
      let has = went.posts in
      let few = receipts_few (one ∷ []) in
      record {
        keeps = record {
          receipts = subst (λ l. new.receipts ≡ old.receipts ++ receipts_in l) is serves.keeps.receipts;
          err = tt;
          down = λ e. search (rules, e);
          memory = λ e. search (rules, e);
          ok_order = λ opening base n so. subst (λ l. InOrder opening base (n + length (receipts_in l)) new) is (serves.keeps.ok_order opening base n so);
          err_order = λ opening base n so. tt;
          covered = serves.keeps.covered;
        };
        done = inl went;
        countable =
            elim can [
              | inl none ↦
                  let made = none_made old.server.store.state old.server.store.soft m
                  (one ∷ []) has.sends new.server.store.state new.server.store.soft none.0 none.1 has.has_told in
                  let zero : length (receipts_in (one ∷ [])) ≡ 0 = ap length made in
                  omega (arith, zero, fits)
              | inr room ↦ omega (arith, few, room)
            ];
        still = serves.up.1 ∙ sym serves.up.0;
        err = tt;
      }

  -- ---- one message after another

  pub keeps_none : {old : Kept D g} {told : Vec (Option Receipt)} → told.items ≡ [] → KeepsAll old (Ok told) old
  keeps_none {old} {told} is = record {
    receipts = subst (λ l. old.receipts ≡ old.receipts ++ receipts_in l) (sym is) (sym (append-nil old.receipts));
    err = tt;
    down = λ e. search (rules, e);
    memory = λ e. search (rules, e);
    ok_order = λ opening base n so. subst (λ l. InOrder opening base (n + length (receipts_in l)) old)
        (sym is) (subst (λ k. InOrder opening base k old) (omega arith) so);
    err_order = λ opening base n so. tt;
    covered = λ opening base n so covered. covered;
  }

  -- One more.
  pub keeps_more : {old mid new : Kept D g} {told next : Vec (Option Receipt)} {one : Option Receipt}
      → KeepsAll old (Ok told) mid → Keeps (λ o. o ∷ []) mid (Ok one) new → next.items ≡ told.items ++ one ∷ []
      → KeepsAll old (Ok next) new
  keeps_more {old} {mid} {new} {told} {next} {one} before more all =
      let receipts : receipts_in next.items ≡ receipts_in told.items ++ receipts_in (one ∷ []) = ap receipts_in all ∙ receipts_more told.items one in
      let long : length (receipts_in next.items) ≡ length (receipts_in told.items) + length (receipts_in (one ∷ [])) =
      ap length receipts ∙ length-append (receipts_in told.items) (receipts_in (one ∷ [])) in
      record {
        receipts = more.receipts
            ∙ (ap (λ l. l ++ receipts_in (one ∷ [])) before.receipts
            ∙ (append_assoc old.receipts (receipts_in told.items) (receipts_in (one ∷ [])) ∙ ap (λ l. old.receipts ++ l) (sym receipts)));
        err = tt;
        down = λ e. search (rules, e);
        memory = λ e. search (rules, e);
        ok_order = λ opening base n so.
            let there = more.ok_order opening base (n + length (receipts_in told.items)) (before.ok_order opening base n so) in
            subst (λ k. InOrder opening base k new) (omega (arith, long)) there;
        err_order = λ opening base n so. tt;
        covered = λ opening base n so covered. more.covered opening base (n + length (receipts_in told.items))
            (before.ok_order opening base n so) (before.covered opening base n so covered);
      }

  -- The next one took the server down: the receipts of those before it are taken back, and none is reported.
  pub keeps_back : {old mid new last : Kept D g} {told : Vec (Option Receipt)} {count : ℕ} {m : ℕ × Message} {fault : SharedFault}
      → KeepsAll old (Ok told) mid → TakesOne mid count m (Err fault) new
      → last.server ≡ new.server → last.boxes ≡ new.boxes → last.receipts ≡ old.receipts → KeepsAll old (Err faults.Down) last
  keeps_back {old} {mid} {new} {last} {told} before fails server boxes back =
      let qs = receipts_in told.items in
      record {
        receipts = tt;
        err = back;
        down = λ e. ap (λ s. s.down) server ∙ fails.err.0;
        memory = λ e. search (rules, e);
        ok_order = λ opening base n so. tt;
        err_order = λ opening base n so.
            let there : InOrder opening base (n + length qs) new = fails.keeps.err_order opening base (n + length qs) (before.ok_order opening base n so) in
            subst (λ s. IsInOrder opening base last.receipts n s.down (known_of s)) (sym server)
            (took_back opening base old.receipts new.receipts last.receipts qs n new.server.down
            (known_of new.server) fails.err.0 (fails.keeps.err ∙ before.receipts) back there);
        covered = λ opening base n so covered.
            let there = fails.keeps.covered opening base (n + length qs) (before.ok_order opening base n so) (before.covered opening base n so covered) in
            subst (λ s. BoxesCovered (known_of s) (λ q. waits_for last.boxes q)) (sym server)
            (subst (λ b. BoxesCovered (known_of new.server) (λ q. waits_for b q)) (sym boxes) there);
      }
