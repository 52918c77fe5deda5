-- What calls that take messages keep to, from what was done.
use Rattle.std.proofs.Common.{◌≡◌, ℕ, ◌+◌, true, false, List, ◌++◌, All, Option, length, Err, Ok, refl, sym, ap, ◌∙◌, subst, inl, inr, arith, rules}
use Rattle.std.specs.Global.{Vec}
use Rattle.std.specs.Vec.{vec_len}
use Rattle.std.proofs.lemmas.List.{length-map}
use Rattle.linda_wire.specs.declared.message.Message.{Message}
use Rattle.linda_wire.specs.declared.reply.Reply.{Reply}
use Rattle.linda_store_state.specs.State.{State, IsState}
use Rattle.linda_store_step.specs.Covered.{IsCovered}
use Rattle.linda_store_step.specs.History.{comings, history_of}
use Rattle.linda_store_step.proofs.CoveredLaws.{all_covered}
use Rattle.linda_disk.specs.declared.disk.Disk.{Ghosts}
use Rattle.linda_server.specs.declared.durable.Durable.{Durable}
use Rattle.linda_store_step.specs.declared.served.Served.{Served}
use Rattle.linda_store_step.specs.Served.{IsServed}
use Rattle.linda_store_step.proofs.ServedLaws.{served_happens}
use Rattle.linda_shared_outbox.specs.declared.outboxes.Outboxes.{Outboxes}
use Rattle.linda_shared_outbox.specs.Waiting.{waits_for}
use Rattle.linda_shared_outbox.specs.Replies.{replies_to, with_more}
use Rattle.linda_shared_accounts.specs.declared.fault.SharedFault.{SharedFault}
use Rattle.linda_shared_accounts.specs.declared.fault.SharedFault.TheVariants as faults
use Rattle.linda_shared_accounts.specs.declared.receipt.Receipt.{Receipt}
use Rattle.linda_shared_accounts.specs.Receipts.{deeds_in}
use Rattle.linda_shared_accounts.specs.Telling.{receipts_in, told_by, HasTold}
use Rattle.linda_shared_accounts.proofs.TellingLaws.{has_told}
use Rattle.linda_shared_held.specs.Order.{known, IsInOrder}
use Rattle.linda_shared_held.specs.Covered.{BoxesCovered}
use Rattle.linda_shared_held.specs.Kept.{Kept, known_of, IsKnownStill, InOrder, AllCovered, KeepCovered, WaitsSame, Keeps, ServesAll, Attempts}
use Rattle.linda_shared_held.specs.Posted.{GoTogether}
use Rattle.linda_shared_held.proofs.OrderLaws.{state_is, stays_so, told_more, told_nobody, deeds_told}
use Rattle.linda_shared_held.proofs.CoveredLaws.{boxes_more, boxes_same}

-- What waits is as it was, and covered as before.
pub same_covered : (old new : Outboxes) → WaitsSame old new → KeepCovered old new
same_covered old new same st covered = boxes_same st st (λ q. waits_for old q) (λ q. waits_for new q) (λ send is. is) same covered

module _ {D : Type 0} {g : Ghosts D} where
  -- These three are as before.
  pub all_same : {a b : Kept D g} → a.server ≡ b.server → a.receipts ≡ b.receipts → a.boxes ≡ b.boxes → a ≡ b
  all_same server receipts boxes i = record { server = server i; receipts = receipts i; boxes = boxes i }

  -- What is known of the server stays, and so does the order.
  pub still_order : (s t : Durable D g) → IsKnownStill s t → {opening base : State} {rs : List Receipt} {count : ℕ}
      → IsInOrder opening base rs count s.down (known_of s) → IsInOrder opening base rs count t.down (known_of t)
  still_order s t still {opening} {base} {rs} {count} so = stays_so opening base rs count s.down t.down (known_of s) (known_of t) still.0 still.1 so

  -- What is known of the server stays, and what waits is covered as before.
  pub still_covered : (s t : Durable D g) (old new : Outboxes) → IsKnownStill s t → KeepCovered old new
      → BoxesCovered (known_of s) (λ q. waits_for old q) → BoxesCovered (known_of t) (λ q. waits_for new q)
  still_covered s t old new still keep covered = subst (λ st. BoxesCovered st (λ q. waits_for new q)) (sym still.0) (keep (known_of s) covered)

  -- A server whose `store` and `before` are the same, and that is down exactly if it was, is known as before.
  pub same_still : (s t : Durable D g) → t.before.value ≡ s.before.value → t.store ≡ s.store → t.down ≡ s.down → IsKnownStill s t
  same_still s t before store down = (
    ap (λ b. known b t.store t.down) before ∙ ap (λ x. known s.before.value x t.down) store
        ∙ ap (λ d. known s.before.value s.store d) down,
    λ up. sym down ∙ up,
  )

  -- ---- a server that is up

  pub while_up : (k : Kept D g) → k.server.down ≡ false → {opening base : State} {count : ℕ}
      → InOrder opening base count k → IsInOrder opening base k.receipts count false k.server.store.state
  while_up k up {opening} {base} {count} so = subst (λ b. IsInOrder opening base k.receipts count b (known k.server.before.value k.server.store b)) up so

  pub covered_up : (k : Kept D g) → k.server.down ≡ false → AllCovered k → BoxesCovered k.server.store.state (λ q. waits_for k.boxes q)
  covered_up k up covered = subst (λ b. BoxesCovered (known k.server.before.value k.server.store b) (λ q. waits_for k.boxes q)) up covered

  -- ---- nothing was done

  -- Nothing was done: no receipt is kept, and nothing is posted.
  pub record IsStill (old new : Kept D g) : Type 0 where
    pub known : IsKnownStill old.server new.server
    pub receipts : new.receipts ≡ old.receipts
    pub boxes : WaitsSame old.boxes new.boxes

  pub is_still : (old : Kept D g) → IsStill old old
  is_still old = record { known = (refl, λ up. up); receipts = refl; boxes = λ q. refl }

  pub stays_in_order : {old new : Kept D g} → IsStill old new → (opening base : State) (count : ℕ)
      → InOrder opening base count old → InOrder opening base count new
  stays_in_order {old} {new} still opening base count so =
      subst (λ l. IsInOrder opening base l count new.server.down (known_of new.server)) (sym still.receipts) (still_order old.server new.server still.known so)

  pub all_stays : {old new : Kept D g} → IsStill old new → AllCovered old → AllCovered new
  all_stays {old} {new} still covered = still_covered old.server new.server old.boxes new.boxes still.known
      (same_covered old.boxes new.boxes still.boxes) covered

  -- With a fault. At `Down` the server is down, and at `Memory` nothing changed.
  pub keeps_still : {A : Type 0} {told : A → List (Option Receipt)} {old new : Kept D g} (fault : SharedFault) → IsStill old new
      → (fault ≡ faults.Down → new.server.down ≡ true) → (fault ≡ faults.Memory → (new.server ≡ old.server) × (new.boxes ≡ old.boxes))
      → Keeps told old (Err fault) new
  keeps_still fault still down memory = record {
    receipts = tt;
    err = still.receipts;
    down = λ e. down (search (rules, e));
    memory = λ e. memory (search (rules, e));
    ok_order = λ opening base count so. tt;
    err_order = stays_in_order still;
    covered = λ opening base count so covered. all_stays still covered;
  }

  pub keeps_nothing : {A : Type 0} {told : A → List (Option Receipt)} {old new : Kept D g} → IsStill old new
      → new.server.down ≡ true → Keeps told old (Err faults.Down) new
  keeps_nothing still down = keeps_still faults.Down still (λ e. down) (λ e. search (rules, e))

  pub keeps_memory : {A : Type 0} {told : A → List (Option Receipt)} {old : Kept D g} → Keeps told old (Err faults.Memory) old
  keeps_memory {A} {told} {old} = keeps_still faults.Memory (is_still old) (λ e. search (rules, e)) (λ e. (refl, refl))

  -- ---- messages were served

  -- What these messages led to is reported to nobody: the server was given up.
  pub record IsGivenUp (old : Kept D g) (ms : List (ℕ × Message)) (served : Served) (mid : Durable D g) (new : Kept D g) : Type 0 where
    pub up : old.server.down ≡ false
    pub serves : IsServed old.server.store.state old.server.store.soft ms served mid.store.state mid.store.soft
    pub down : new.server.down ≡ true
    pub before : new.server.before.value ≡ mid.store.state
    pub receipts : new.receipts ≡ old.receipts
    pub boxes : WaitsSame old.boxes new.boxes

  gives_up : {old new : Kept D g} {ms : List (ℕ × Message)} {served : Served} {mid : Durable D g} → IsGivenUp old ms served mid new
      → (opening base : State) (count : ℕ) → InOrder opening base count old → InOrder opening base count new
  gives_up {old} {new} {ms} {served} {mid} so opening base count order =
      let s = old.server.store in
      let there : IsInOrder opening base old.receipts count true mid.store.state =
      told_nobody opening base old.receipts count s.state s.soft ms served mid.store.state mid.store.soft (while_up old so.up order) so.serves in
      subst (λ b. IsInOrder opening base new.receipts count b (known new.server.before.value new.server.store b)) (sym so.down)
      (subst (λ l. IsInOrder opening base l count true new.server.before.value) (sym so.receipts)
      (subst (IsInOrder opening base old.receipts count true) (sym so.before) there))

  -- What was covered stays so once these messages were served.
  once_served : (opening base : State) (count : ℕ) (old : Kept D g) (ms : List (ℕ × Message)) (served : Served) (mid : Durable D g)
      → old.server.down ≡ false → InOrder opening base count old
      → IsServed old.server.store.state old.server.store.soft ms served mid.store.state mid.store.soft
      → ((send : ℕ × Reply) → IsCovered old.server.store.state send → IsCovered mid.store.state send) × All (IsCovered mid.store.state) served.sends.items
  once_served opening base count old ms served mid up order serves =
      let s = old.server.store in
      all_covered (comings ms) s.state s.soft (history_of mid.store.state mid.store.soft served.deeds.items served.sends.items)
      (state_is opening base old.receipts count s.state (while_up old up order))
      (served_happens s.state s.soft ms served mid.store.state mid.store.soft serves)

  given_up_covered : {old new : Kept D g} {ms : List (ℕ × Message)} {served : Served} {mid : Durable D g} → IsGivenUp old ms served mid new
      → (opening base : State) (count : ℕ) → InOrder opening base count old → AllCovered old → AllCovered new
  given_up_covered {old} {new} {ms} {served} {mid} so opening base count order covered =
      let all = once_served opening base count old ms served mid so.up order so.serves in
      subst (λ b. BoxesCovered (known new.server.before.value new.server.store b) (λ q. waits_for new.boxes q)) (sym so.down)
      (subst (λ st. BoxesCovered st (λ q. waits_for new.boxes q)) (sym so.before)
      (boxes_same old.server.store.state mid.store.state (λ q. waits_for old.boxes q)
      (λ q. waits_for new.boxes q) all.0 so.boxes (covered_up old so.up covered)))

  pub serves_given_up : {old new : Kept D g} (ms : List (ℕ × Message)) (served : Served) (mid : Durable D g)
      → IsGivenUp old ms served mid new → ServesAll old ms (Err faults.Down) new
  serves_given_up ms served mid so = record {
    keeps = record {
      receipts = tt;
      err = so.receipts;
      down = λ e. so.down;
      memory = λ e. search (rules, e);
      ok_order = λ opening base count order. tt;
      err_order = gives_up so;
      covered = given_up_covered so;
    };
    done = tt;
    one_each = tt;
    up = tt;
    nothing = so.boxes;
    full = λ e. search (rules, e);
    room = tt;
    fault = inr (inl refl);
  }

  -- What these messages led to is reported, and what is sent is posted.
  pub record IsToldOf (old : Kept D g) (ms : List (ℕ × Message)) (served : Served) (told : List (Option Receipt))
      (sends : List (ℕ × Reply)) (new : Kept D g) : Type 0 where
    pub up : (old.server.down ≡ false) × (new.server.down ≡ false)
    pub serves : IsServed old.server.store.state old.server.store.soft ms served new.server.store.state new.server.store.soft
    pub tells : told ≡ told_by served.counts.items served.deeds.items served.sends.items
    pub receipts : new.receipts ≡ old.receipts ++ receipts_in told
    pub sends_are : sends ≡ served.sends.items
    pub posted_is : (c : ℕ) → waits_for new.boxes c ≡ with_more (replies_to c sends) (waits_for old.boxes c)

  goes_on : {old new : Kept D g} {ms : List (ℕ × Message)} {served : Served} {told : List (Option Receipt)} {sends : List (ℕ × Reply)}
      → IsToldOf old ms served told sends new
      → (opening base : State) (count : ℕ) → InOrder opening base count old → InOrder opening base (count + length (receipts_in told)) new
  goes_on {old} {new} {ms} {served} {told} so opening base count order =
      let s = old.server.store in
      let t = new.server.store in
      let before = while_up old so.up.0 order in
      let has = has_told s.state t.state s.soft t.soft ms served told so.tells (state_is opening base old.receipts count s.state before) so.serves in
      let many = count + length (receipts_in told) in
      subst (λ b. IsInOrder opening base new.receipts many b (known new.server.before.value t b)) (sym so.up.1)
      (subst (λ l. IsInOrder opening base l many false t.state) (sym so.receipts)
      (told_more opening base old.receipts count s.state s.soft ms told served.sends.items t.state t.soft before has))

  told_covered : {old new : Kept D g} {ms : List (ℕ × Message)} {served : Served} {told : List (Option Receipt)} {sends : List (ℕ × Reply)}
      → IsToldOf old ms served told sends new
      → (opening base : State) (count : ℕ) → InOrder opening base count old → AllCovered old → AllCovered new
  told_covered {old} {new} {ms} {served} {told} {sends} so opening base count order covered =
      let t = new.server.store in
      let all = once_served opening base count old ms served new.server so.up.0 order so.serves in
      subst (λ b. BoxesCovered (known new.server.before.value t b) (λ q. waits_for new.boxes q)) (sym so.up.1)
      (boxes_more old.server.store.state t.state sends (λ q. waits_for old.boxes q)
      (λ q. waits_for new.boxes q) all.0 (subst (All (IsCovered t.state)) (sym so.sends_are) all.1) so.posted_is
      (covered_up old so.up.0 covered))

  told_has : {old new : Kept D g} {ms : List (ℕ × Message)} {served : Served} {told : List (Option Receipt)} {sends : List (ℕ × Reply)}
      → IsToldOf old ms served told sends new
      → IsState old.server.store.state
      → HasTold old.server.store.state old.server.store.soft ms told served.sends.items new.server.store.state new.server.store.soft
  told_has {old} {new} {ms} {served} {told} so is =
      let s = old.server.store in
      let t = new.server.store in
      has_told s.state t.state s.soft t.soft ms served told so.tells is so.serves

  -- The deeds that were done are those that are reported.
  told_deeds : {old new : Kept D g} {ms : List (ℕ × Message)} {served : Served} {told : List (Option Receipt)} {sends : List (ℕ × Reply)}
      → IsToldOf old ms served told sends new
      → IsState old.server.store.state → served.deeds.items ≡ deeds_in (receipts_in told)
  told_deeds {old} {new} {ms} {served} {told} so is =
      let s = old.server.store in
      let t = new.server.store in
      deeds_told s.state s.soft ms served t.state t.soft told is so.serves so.tells

  together : {old new : Kept D g} {ms : List (ℕ × Message)} {served : Served} {told : List (Option Receipt)} {sends : List (ℕ × Reply)}
      → IsToldOf old ms served told sends new
      → IsState old.server.store.state → Attempts old.server ms (Ok served) new.server
      → GoTogether old.server ms told (λ q. waits_for old.boxes q) (λ q. waits_for new.boxes q) new.server
  together {old} {new} {ms} {served} {told} {sends} so is attempt =
      let s = old.server.store in
      let t = new.server.store in
      let all : served.deeds.items ≡ deeds_in (receipts_in told) = told_deeds so is in
      let long : length served.deeds.items ≡ length (receipts_in told) = ap length all ∙ length-map (receipts_in told) (λ (r : Receipt). r.deed) in
      record {
        posts = record {
          sends = sends;
          has_told = subst (λ (l : List (ℕ × Reply)). HasTold s.state s.soft ms told l t.state t.soft) (sym so.sends_are) (told_has so is);
          posted_is = so.posted_is;
        };
        idle = λ none. attempt.idle (all ∙ ap deeds_in none);
        clock = λ some. attempt.clock (omega (arith, long, some));
      }

  pub serves_told : {old new : Kept D g} {ms : List (ℕ × Message)} (served : Served) (told : Vec (Option Receipt)) (sends : List (ℕ × Reply))
      → IsToldOf old ms served told.items sends new
      → IsState old.server.store.state → length told.items ≡ length served.counts.items
      → Attempts old.server ms (Ok served) new.server → ServesAll old ms (Ok told) new
  serves_told served told sends so is as_many attempt =
      let counted : vec_len told ≡ length told.items = told.ok.0 in
      let counts : vec_len served.counts ≡ length served.counts.items = served.counts.ok.0 in
      let each = attempt.each in
      record {
        keeps = record {
          receipts = so.receipts;
          err = tt;
          down = λ e. search (rules, e);
          memory = λ e. search (rules, e);
          ok_order = goes_on so;
          err_order = λ opening base count order. tt;
          covered = told_covered so;
        };
        done = together so is attempt;
        one_each = omega (arith, counted, counts, as_many, each);
        up = so.up;
        nothing = tt;
        full = λ e. search (rules, e);
        room = attempt.room;
        fault = tt;
      }
