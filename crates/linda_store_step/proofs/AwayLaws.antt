-- A client that left stays away after all that comes, and after stops.
use Rattle.std.proofs.Common.{◌≡◌, ◌≢◌, ℕ, ◌<◌, ◌≤◌, ◌⊎◌, Bool, true, false, true≢false, cond, not, ◌&&◌, ◌==◌, nat_le}
use Rattle.std.proofs.Common.{nat_lt, List, [], ◌∷◌, All, Option, Some, None, IfSome, option_to_list, inl, inr, refl}
use Rattle.std.proofs.Common.{sym, ap, ◌∙◌, subst, ne_eqb, arith}
use Rattle.std.proofs.lemmas.Option.{none-some}
use Rattle.std.proofs.lemmas.List.Elements.{All-nil, All-cons, All-append}
use Rattle.std.specs.FinMap.{get, entries}
use Rattle.linda_map_laws.proofs.MapLaws.{get_same}
use Rattle.linda_tuple.specs.Tuple.{Tuple}
use Rattle.linda_tuple.specs.Template.{Template}
use Rattle.linda_hold.specs.declared.request.Request.{Request}
use Rattle.linda_hold.specs.Request.{request_of}
use Rattle.linda_hold.specs.Waits.{is_waiting, without_client, without}
use Rattle.linda_hold.specs.Holds.{held_in}
use Rattle.linda_wire.specs.declared.limits.TheConstants.{MAX_ASKS, NUMBER_LIMIT, VERSION}
use Rattle.linda_wire.specs.declared.message.Message.{Message}
use Rattle.linda_wire.specs.declared.message.Message.TheVariants as messages
use Rattle.linda_wire.specs.declared.refusal.Refusal.{Refusal}
use Rattle.linda_wire.specs.declared.refusal.Refusal.TheVariants as refusals
use Rattle.linda_wire.specs.declared.reply.Reply.{Reply}
use Rattle.linda_wire.specs.declared.reply.Reply.TheVariants as replies
use Rattle.linda_wire.specs.Refusal.{refused}
use Rattle.linda_book.specs.declared.class.Class.{Class}
use Rattle.linda_book.specs.declared.class.Class.TheVariants as classes
use Rattle.linda_book.specs.declared.kept_reply.KeptReply.{KeptReply}
use Rattle.linda_book.specs.declared.kept_reply.KeptReply.TheVariants as kept
use Rattle.linda_book.specs.Classes.{class_of, IsClass}
use Rattle.linda_book.specs.Entries.{Entry, left_in, is_left, number_in}
use Rattle.linda_book.proofs.MeaningLaws.{class_means}
use Rattle.linda_store_state.specs.declared.deed.Deed.{Deed}
use Rattle.linda_store_state.specs.declared.deed.Deed.TheVariants as deeds
use Rattle.linda_store_state.specs.Deed.{client_of}
use Rattle.linda_store_state.specs.State.{State, IsState}
use Rattle.linda_store_state.specs.After.{IsAfter}
use Rattle.linda_store_state.specs.Proper.{AreDone}
use Rattle.linda_store_state.proofs.AfterLaws.{none_after, one_after}
use Rattle.linda_store_state.proofs.DoneLaws.{done, done_after}
use Rattle.linda_store_state.proofs.LeftLaws.{AreOthers, others_later}
use Rattle.linda_store_state.proofs.ProperLaws.{none_proper, front_proper}
use Rattle.linda_store_step.specs.declared.judge.Demand.{Demand}
use Rattle.linda_store_step.specs.declared.judge.Standing.{Standing}
use Rattle.linda_store_step.specs.declared.judge.Verdict.TheVariants.{Refused}
use Rattle.linda_store_step.specs.Judge.{demand_of, to_put, to_take, to_leave, judge, judge_class}
use Rattle.linda_store_step.specs.Soft.{Soft, Bagged, OfAsking, open_asks}
use Rattle.linda_store_step.specs.Dispatch.{Sends, no_sends, release_if, on_cancel, on_close}
use Rattle.linda_store_step.specs.Asking.{offer_of, read_of, only_sent, serve, on_ask}
use Rattle.linda_store_step.specs.Answer.{Answer, only_sends, greeting, has_left, last_number, standing_of}
use Rattle.linda_store_step.specs.Answer.{is_one_too_many, reply_of_kept, SaysAsk, IsAnswer, IsStep}
use Rattle.linda_store_step.specs.History.{Coming, says, hangs_up, Comes, History, Happens, history_of}
use Rattle.linda_store_step.specs.Course.{Turn, comes, stops, IsStop, Leads, Endures, joined}
use Rattle.linda_store_step.specs.Store.{IsHere, IsOrderly}
use Rattle.linda_store_step.specs.Promises.{LastWord, left_again, is_older, was_last, speaks_other, is_known, is_welcome, IsAway}
use Rattle.linda_store_step.proofs.AddressLaws.{dispatch_sent, freed_sent, all_freed_sent}
use Rattle.linda_store_step.proofs.AnswerCourse.{Course, unnumbered, turned_down, told_again, stored, taken, passed, left, course_of}
use Rattle.linda_store_step.proofs.AnswerLaws.{step_proper}
use Rattle.linda_store_step.proofs.NumberLaws.{allowed_out, allowed_pass, allowed_leave}
use Rattle.linda_store_step.proofs.OutcomeLaws.{came_orderly}
use Rattle.linda_store_step.proofs.PresentLaws.{fewer_asking, asking_by, no_asking}
use Rattle.linda_store_step.proofs.HistoryLaws.{all_safe}

-- ---- to whom a step sends something

-- What is sent for an Ask goes to the client that asks.
module _ (P : ℕ → Type 0) (bag : Bagged) (c ticket : ℕ) (own : P c) where
  abbrev AllSent : List (ℕ × Reply) → Type 0
  AllSent sends = All (λ (send : ℕ × Reply). P send.0) sends

  alone : (r : Reply) → AllSent ((c, r) ∷ [])
  alone r = All-cons (λ (send : ℕ × Reply). P send.0) (c, r) [] own (All-nil (λ (send : ℕ × Reply). P send.0))

  offered : (id : ℕ) → AllSent (offer_of bag id (request_of c ticket))
  offered id = by (get bag id)
    where
      by : (o : Option Tuple) → AllSent (Rattle.std.proofs.Common.map (λ row. (c, replies.Offer ticket id row)) (option_to_list o))
      by None = All-nil (λ (send : ℕ × Reply). P send.0)
      by (Some row) = alone (replies.Offer ticket id row)

  answered : (id : ℕ) → AllSent (read_of bag id (request_of c ticket))
  answered id = by (get bag id)
    where
      by : (o : Option Tuple) → AllSent (Rattle.std.proofs.Common.map (λ row. (c, replies.Read ticket id row)) (option_to_list o))
      by None = All-nil (λ (send : ℕ × Reply). P send.0)
      by (Some row) = alone (replies.Read ticket id row)

  served_sent : (remove : Bool) (shape : Template) (least : Option ℕ) (soft : Soft) → AllSent (serve bag (request_of c ticket) remove shape least soft).sends
  served_sent true shape (Some id) soft = offered id
  served_sent false shape (Some id) soft = answered id
  served_sent remove shape None soft = All-nil (λ (send : ℕ × Reply). P send.0)

  pub asked_sent : (remove : Bool) (shape : Template) (held least : Option ℕ) (soft : Soft)
      → AllSent (on_ask bag (request_of c ticket) remove shape held least soft).sends
  asked_sent remove shape (Some id) least soft = offered id
  asked_sent remove shape None least soft =
      elim (is_waiting (request_of c ticket) soft.waits) as
      (λ b. AllSent (cond b (no_sends soft)
      (cond (nat_le MAX_ASKS (open_asks c soft)) (only_sent ((c, refused (refusals.TooManyAsks ticket)) ∷ []) soft)
      (serve bag (request_of c ticket) remove shape least soft))).sends) [
        | true ↦ All-nil (λ (send : ℕ × Reply). P send.0)
        | false ↦
            elim (nat_le MAX_ASKS (open_asks c soft)) as
            (λ b. AllSent (cond b (only_sent ((c, refused (refusals.TooManyAsks ticket)) ∷ []) soft)
            (serve bag (request_of c ticket) remove shape least soft)).sends) [
              | true ↦ alone (refused (refusals.TooManyAsks ticket))
              | false ↦ served_sent remove shape least soft
            ]
      ]

-- What is sent when a request is given up, or a client's connection ends, goes to those that wait.
module _ (P : ℕ → Type 0) (bag : Bagged) (soft : Soft) (asking : OfAsking P soft) where
  pub cancelled_sent : (request : Request) (held : Option ℕ) → All (λ (send : ℕ × Reply). P send.0) (on_cancel bag request held soft).sends
  cancelled_sent request held =
      elim (is_waiting request soft.waits) as
      (λ b. All (λ (send : ℕ × Reply). P send.0)
      (cond b (no_sends (record { holds = soft.holds; waits = without request soft.waits })) (release_if bag held soft)).sends) [
        | true ↦ All-nil (λ (send : ℕ × Reply). P send.0)
        | false ↦ by held
      ]
    where
      by : (held : Option ℕ) → All (λ (send : ℕ × Reply). P send.0) (release_if bag held soft).sends
      by None = All-nil (λ (send : ℕ × Reply). P send.0)
      by (Some id) = freed_sent P bag id soft asking.waits

  pub closed_sent : (client : ℕ) → All (λ (send : ℕ × Reply). P send.0) (on_close bag client soft).sends
  closed_sent client =
      all_freed_sent P bag (held_in client (entries soft.holds)) (record { holds = soft.holds; waits = without_client client soft.waits })
      (fewer_asking P (λ w. not (client == w.0.client)) soft asking).waits

-- ---- what is sent to a client that left

-- A verdict on it is a refusal of these, or that its Leave came again.
judged : (d : Demand) (at : Standing) (why : Refusal) → at.left ≡ true → judge d at ≡ Refused why → (why ≡ refusals.Old at.last) ⊎ (why ≡ refusals.Left at.last)
judged d at why gone = by (class_of at.last at.left d.n) (class_means at.last at.left d.n)
  where
    same_why : (a b : Refusal) → Refused a ≡ Refused b → a ≡ b
    same_why a b same = cc

    by : (class : Class) → IsClass at.last at.left d.n class → judge_class d at class ≡ Refused why
        → (why ≡ refusals.Old at.last) ⊎ (why ≡ refusals.Left at.last)
    by classes.Fresh means e = absurd (true≢false (sym gone ∙ means.1))
    by classes.Kept means e = absurd (cc)
    by (classes.Old last) means e = inl (sym (same_why (refusals.Old last) why e) ∙ ap refusals.Old means.0)
    by (classes.Left last) means e = inr (sym (same_why (refusals.Left last) why e) ∙ ap refusals.Left means.0)
    by (classes.Gap last) means e = absurd (true≢false (sym gone ∙ means.1.1))

left_kept : (reply : KeptReply) → is_left reply ≡ true → reply ≡ kept.Left
left_kept (kept.Stored id) e = absurd (true≢false (sym e))
left_kept (kept.Taken id tuple) e = absurd (true≢false (sym e))
left_kept kept.Gone e = absurd (true≢false (sym e))
left_kept kept.Left e = refl

module _ (st : State) (c : ℕ) (is : IsState st) (gone : has_left st c ≡ true) where
  -- its last number is one
  low : 1 ≤ last_number st c
  low = by (get st.book c) gone (is.numbers c)
    where
      by : (o : Option Entry) → left_in o ≡ true → IfSome o (λ e. (1 ≤ e.0) × (e.0 < NUMBER_LIMIT)) → 1 ≤ number_in o
      by None e within = absurd (true≢false (sym e))
      by (Some entry) e within = within.0

  abbrev Word : Reply → Type 0
  Word r = LastWord (last_number st c) r

  placed : is_one_too_many st c ≡ false
  placed = ap (λ b. b && nat_le Rattle.linda_wire.specs.declared.limits.TheConstants.MAX_CLIENTS (Rattle.std.specs.FinMap.len st.book))
      (ne_eqb (last_number st c) 0 (λ e. let some = low in omega (arith, e, some)))

  greeted : (version : ℕ) (fresh : Bool) → Word (greeting st c version fresh)
  greeted version fresh = by (not (version == VERSION)) (fresh && nat_lt 0 (last_number st c)) (is_one_too_many st c) placed
    where
      by : (a b d : Bool) → d ≡ false
          → Word (cond a (refused refusals.Version)
          (cond b (refused (refusals.Known (last_number st c))) (cond d (refused refusals.TooManyClients) (replies.Welcome (last_number st c)))))
      by true b d e = speaks_other
      by false true d e = is_known
      by false false true e = absurd (true≢false e)
      by false false false e = is_welcome

  turned : (d : Demand) (why : Refusal) → judge d (standing_of st c) ≡ Refused why → Word (refused why)
  turned d why verdict =
      elim (judged d (standing_of st c) why gone verdict) [
        | inl old ↦ subst (λ w. Word (refused w)) (sym old) is_older
        | inr last ↦ subst (λ w. Word (refused w)) (sym last) was_last
      ]

  again : (n : ℕ) (reply : KeptReply) → get st.book c ≡ Some (n, reply) → Word (reply_of_kept n reply)
  again n reply there =
      let is_last : n ≡ last_number st c = sym (ap number_in there) in
      let as_left : reply ≡ kept.Left = left_kept reply (sym (ap left_in there) ∙ gone) in
      subst (λ r. Word (reply_of_kept n r)) (sym as_left) (subst (λ k. Word (replies.Left k)) (sym is_last) left_again)

-- ---- one thing that comes

module _ (st : State) (soft : Soft) (c : ℕ) (is : IsOrderly st soft) (gone : has_left st c ≡ true) where
  -- a client that has not left is another one
  other : (k : ℕ) → IsHere st k → k ≢ c
  other k here same = true≢false (sym gone ∙ ap (has_left st) (sym same) ∙ here)

  others_ask : OfAsking (λ k. k ≢ c) soft
  others_ask = asking_by (IsHere st) (λ k. k ≢ c) soft other is.present

  abbrev Told : List (ℕ × Reply) → Type 0
  Told sends = All (λ (send : ℕ × Reply). send.0 ≡ c → LastWord (last_number st c) send.1) sends

  -- what goes only to others
  to_others : (sends : List (ℕ × Reply)) → All (λ (send : ℕ × Reply). send.0 ≢ c) sends → Told sends
  to_others sends all k d within same = absurd (all k d within same)

  -- what goes to the client that speaks
  to_one : (k : ℕ) (r : Reply) → (k ≡ c → LastWord (last_number st c) r) → Told ((k, r) ∷ [])
  to_one k r word = All-cons (λ (send : ℕ × Reply). send.0 ≡ c → LastWord (last_number st c) send.1)
      (k, r) [] word (All-nil (λ (send : ℕ × Reply). send.0 ≡ c → LastWord (last_number st c) send.1))

  first_others : (k : ℕ) (r : Reply) (sends : List (ℕ × Reply)) → k ≢ c → All (λ (send : ℕ × Reply). send.0 ≢ c) sends → Told ((k, r) ∷ sends)
  first_others k r sends apart all = to_others ((k, r) ∷ sends) (All-cons (λ (send : ℕ × Reply). send.0 ≢ c) (k, r) sends apart all)

  module _ (k : ℕ) where
    own : (P : ℕ → Type 0) → k ≡ c → P c → P k
    own P same p = subst P (sym same) p

    said_told : (b : Bool) → has_left st k ≡ b → (ticket : ℕ) (remove : Bool) (shape : Template) (told : Sends)
        → SaysAsk b st k ticket remove shape soft told → Told told.sends
    said_told true e ticket remove shape told said =
        subst (λ (t : Sends). Told t.sends) (sym said)
        (to_one k (refused (refusals.Left (last_number st k)))
        (λ same. subst (λ i. LastWord (last_number st c) (refused (refusals.Left (last_number st i)))) (sym same) was_last))
    said_told false e ticket remove shape told asked =
        subst (λ (t : Sends). Told t.sends) (sym asked.told_is)
        (to_others _ (asked_sent (λ i. i ≢ c) st.bag k ticket (other k e) remove shape asked.held asked.least soft))

    sent_told : (m : Message) (told : Sends) → demand_of m ≡ None → IsAnswer st soft k m (only_sends told) → Told told.sends
    sent_told (messages.Hello version client fresh) told none answer =
        subst (λ (a : Answer). Told a.sends) (sym answer)
        (to_one k (greeting st k version fresh)
        (λ same. subst (λ i. LastWord (last_number st c) (greeting st i version fresh)) (sym same) (greeted st c is.state_is gone version fresh)))
    sent_told (messages.Ask ticket remove shape) told none answer =
        subst (λ (a : Answer). Told a.sends) (sym answer.1.1) (said_told (has_left st k) refl ticket remove shape answer.0 answer.1.0)
    sent_told (messages.Cancel ticket) told none answer =
        let given_up = answer.1.0 in
        subst (λ (a : Answer). Told a.sends) (sym (answer.1.1 ∙ ap only_sends given_up.told_is))
        (to_others _ (cancelled_sent (λ i. i ≢ c) st.bag soft others_ask (request_of k ticket) given_up.held))
    sent_told (messages.Out n tuple) told some answer = absurd (none-some (to_put n) (sym some))
    sent_told (messages.Accept n ticket id) told some answer = absurd (none-some (to_take n) (sym some))
    sent_told (messages.Leave n) told some answer = absurd (none-some (to_leave n) (sym some))

    told : (m : Message) (a : Answer) → Course st soft k m a → Told a.sends
    told _ _ (unnumbered m said none answer) = sent_told m said none answer
    told _ _ (turned_down m d why asked verdict) =
        to_one k (refused why) (λ same. turned st c is.state_is gone d why (subst (λ i. judge d (standing_of st i) ≡ Refused why) same verdict))
    told _ _ (told_again m d reply asked verdict kept_is) =
        to_one k (reply_of_kept d.n reply) (λ same. again st c is.state_is gone d.n reply (subst (λ i. get st.book i ≡ Some (d.n, reply)) same kept_is))
    told _ _ (stored n tuple none) =
        first_others k (replies.Stored n st.next) _ (other k (allowed_out st k n is.state_is tuple none).stays)
        (dispatch_sent (λ i. i ≢ c) st.next tuple soft others_ask.waits)
    told _ _ (taken n ticket id row none held) =
        first_others k (replies.Taken n id row) [] (other k (allowed_pass st k n is.state_is none id).stays) (All-nil (λ (send : ℕ × Reply). send.0 ≢ c))
    told _ _ (passed n ticket id none held) =
        first_others k (replies.Gone n) [] (other k (allowed_pass st k n is.state_is none id).stays) (All-nil (λ (send : ℕ × Reply). send.0 ≢ c))
    told _ _ (left n none) =
        first_others k (replies.Left n) _ (other k (allowed_leave st k n is.state_is none).stays) (closed_sent (λ i. i ≢ c) st.bag soft others_ask k)

  -- what is done and kept after deeds that are done
  kept_by : (ds : List Deed) (new : State) → AreDone st ds new → AreOthers st ds new c
  kept_by ds new all = others_later ds st new c is.state_is all gone

  one_away : (new : State) (x : Coming) (a : Answer) → Comes st soft x a new → IsAway st c (history_of new a.soft (option_to_list a.deed) a.sends)
  one_away new x a came = by x came
    where
      orderly : IsOrderly new a.soft
      orderly = came_orderly st new soft x a is came

      asks_by : get new.book c ≡ get st.book c → OfAsking (λ k. k ≢ c) a.soft
      asks_by same = asking_by (IsHere new) (λ k. k ≢ c) a.soft
          (λ k here e. true≢false (sym gone ∙ sym (ap left_in same) ∙ ap (has_left new) (sym e) ∙ here)) orderly.present

      by : (x : Coming) → Comes st soft x a new → IsAway st c (history_of new a.soft (option_to_list a.deed) a.sends)
      by (says k m) step =
          let done = step_proper st st new soft [] k m a is.state_is (none_proper st) (none_after st is.state_is) step in
          let rest = kept_by (option_to_list a.deed) new (record { proper = done.0; after = done.1 }) in
          record { kept = rest.stays; deeds = rest.others; asks = asks_by rest.stays; sends = told k m a (course_of st soft k m a step.answer) }
      by (hangs_up k) closed =
          let same : get new.book c ≡ get st.book c = ap (λ (s : State). get s.book c) closed.1 in
          record {
            kept = same;
            deeds = subst (λ (b : Answer). All (λ (d : Deed). client_of d ≢ c) (option_to_list b.deed))
                (sym closed.0) (All-nil (λ (d : Deed). client_of d ≢ c));
            asks = asks_by same;
            sends = subst (λ (b : Answer). Told b.sends) (sym closed.0) (to_others _ (closed_sent (λ i. i ≢ c) st.bag soft others_ask k));
          }

-- ---- histories

nothing_away : (st : State) (soft : Soft) (c : ℕ) → IsOrderly st soft → has_left st c ≡ true → IsAway st c (history_of st soft [] [])
nothing_away st soft c is gone = record {
  kept = refl;
  deeds = All-nil (λ (d : Deed). client_of d ≢ c);
  asks = others_ask st soft c is gone;
  sends = All-nil (λ (send : ℕ × Reply). send.0 ≡ c → LastWord (last_number st c) send.1);
}

-- The first and the later.
then_away : (st : State) (c : ℕ) (first later : History) → IsAway st c first → IsAway first.state c later → IsAway st c (joined first later)
then_away st c first later one rest = record {
  kept = rest.kept ∙ one.kept;
  deeds = All-append (λ (d : Deed). client_of d ≢ c) first.deeds later.deeds one.deeds rest.deeds;
  asks = rest.asks;
  sends = All-append (λ (send : ℕ × Reply). send.0 ≡ c → LastWord (last_number st c) send.1) first.sends later.sends one.sends
      (subst (λ (n : ℕ). All (λ (send : ℕ × Reply). send.0 ≡ c → LastWord n send.1) later.sends) (ap number_in one.kept) rest.sends);
}

still_gone : (st : State) (c : ℕ) (all : History) → IsAway st c all → has_left st c ≡ true → has_left all.state c ≡ true
still_gone st c all away gone = ap left_in away.kept ∙ gone

pub happened_away : (st : State) (soft : Soft) (c : ℕ) (xs : List Coming) (all : History) → IsOrderly st soft
    → has_left st c ≡ true → Happens st soft xs all → IsAway st c all
happened_away st soft c [] all is gone happens = subst (IsAway st c) (sym happens) (nothing_away st soft c is gone)
happened_away st soft c (x ∷ xs) all is gone happens =
    let first : Answer = happens.0 in
    let mid : State = happens.1.0 in
    let later : History = happens.1.1.0 in
    let came : Comes st soft x first mid = happens.1.1.1.0 in
    let one = one_away st soft c is gone mid x first came in
    let was : History = history_of mid first.soft (option_to_list first.deed) first.sends in
    subst (IsAway st c) (sym happens.1.1.1.1.1)
    (then_away st c was later one
    (happened_away mid first.soft c xs later (came_orderly st mid soft x first is came) (still_gone st c was one gone) happens.1.1.1.1.0))

stopped_away : (st : State) (soft : Soft) (c : ℕ) (xs : List Coming) (all : History) → IsOrderly st soft
    → has_left st c ≡ true → IsStop st soft xs all → IsAway st c all
stopped_away st soft c xs all is gone stop =
    let safe = all_safe st soft xs stop.whole is stop.happens in
    let proper = front_proper st all.deeds stop.front.0 (subst (λ l. Rattle.linda_store_state.specs.Proper.IsProper st l) (sym stop.front.1) safe.proper) in
    let rest = kept_by st soft c is gone all.deeds all.state (record { proper = proper; after = stop.state_is }) in
    record {
      kept = rest.stays;
      deeds = rest.others;
      asks = subst (OfAsking (λ k. k ≢ c)) (sym stop.soft_is) (no_asking (λ k. k ≢ c));
      sends = subst (λ (l : List (ℕ × Reply)). All (λ (send : ℕ × Reply). send.0 ≡ c → LastWord (last_number st c) send.1) l)
          (sym stop.silent) (All-nil (λ (send : ℕ × Reply). send.0 ≡ c → LastWord (last_number st c) send.1));
    }

led_away : (st : State) (soft : Soft) (c : ℕ) (x : Turn) (all : History) → IsOrderly st soft → has_left st c ≡ true → Leads st soft x all → IsAway st c all
led_away st soft c (comes x) all is gone leads = happened_away st soft c (x ∷ []) all is gone leads
led_away st soft c (stops xs) all is gone leads = stopped_away st soft c xs all is gone leads

led_orderly : (st : State) (soft : Soft) (x : Turn) (all : History) → IsOrderly st soft → Leads st soft x all → IsOrderly all.state all.soft
led_orderly st soft x all is leads =
    (Rattle.linda_store_step.proofs.CourseLaws.all_endured st soft (x ∷ []) (joined all (history_of all.state all.soft [] [])) is
    (all, (history_of all.state all.soft [] [], (leads, (refl, refl))))).orderly

pub endured_away : (st : State) (soft : Soft) (c : ℕ) (xs : List Turn) (all : History) → IsOrderly st soft
    → has_left st c ≡ true → Endures st soft xs all → IsAway st c all
endured_away st soft c [] all is gone endures = subst (IsAway st c) (sym endures) (nothing_away st soft c is gone)
endured_away st soft c (x ∷ xs) all is gone endures =
    let first : History = endures.0 in
    let later : History = endures.1.0 in
    let one = led_away st soft c x first is gone endures.1.1.0 in
    subst (IsAway st c) (sym endures.1.1.1.1)
    (then_away st c first later one
    (endured_away first.state first.soft c xs later (led_orderly st soft x first is endures.1.1.0) (still_gone st c first one gone) endures.1.1.1.0))

-- A Leave that is done makes its client one that left.
pub leave_leaves : (st new : State) (soft : Soft) (k c n : ℕ) (m : Message) (a : Answer) → IsState st
    → IsStep st soft k m a new → a.deed ≡ Some (deeds.Leave c n) → has_left new c ≡ true
leave_leaves st new soft k c n m a is step some =
    let d : Deed = deeds.Leave c n in
    let after : IsAfter st (d ∷ []) new = subst (λ o. IsAfter st (option_to_list o) new) some step.state_is in
    ap (λ (s : State). has_left s c) (one_after st (d ∷ []) new (done st d) after (done_after st d is)) ∙ ap left_in (get_same st.book c (n, kept.Left))
