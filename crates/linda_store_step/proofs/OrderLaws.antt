-- Every step and every close keep what a store keeps: the ranges of its state, of its holds and waits, that nobody waits in
-- vain, and that no client that left holds anything or waits.
use Rattle.std.proofs.Common.{◌≡◌, ◌≢◌, ℕ, ◌<◌, Bool, true, false, cond, nat_le, List, [], ◌∷◌, Option, Some, None}
use Rattle.std.proofs.Common.{option_to_list, is_some, inl, inr, refl, sym, ap, ◌∙◌, subst, leb-false}
use Rattle.std.proofs.lemmas.Option.{none-some}
use Rattle.std.specs.FinMap.{get, remove}
use Rattle.linda_tuple.specs.Tuple.{Tuple}
use Rattle.std.proofs.lemmas.Bool.{cases_eq}
use Rattle.linda_hold.specs.declared.request.Request.{Request}
use Rattle.linda_hold.specs.Request.{request_of}
use Rattle.linda_wire.specs.declared.limits.TheConstants.{MAX_ASKS}
use Rattle.linda_wire.specs.Refusal.{refused}
use Rattle.linda_wire.specs.declared.refusal.Refusal.TheVariants as refusals
use Rattle.linda_tuple.specs.Template.{Template}
use Rattle.linda_hold.specs.Waits.{is_waiting}
use Rattle.linda_hold.specs.Holds.{IsHeldAt}
use Rattle.linda_wire.specs.declared.message.Message.{Message}
use Rattle.linda_wire.specs.declared.reply.Reply.{Reply}
use Rattle.linda_wire.specs.declared.message.Message.TheVariants.{Hello, Out, Ask, Accept, Cancel, Leave}
use Rattle.linda_store_state.specs.declared.deed.Deed.{Deed}
use Rattle.linda_store_state.specs.declared.deed.Deed.TheVariants as deeds
use Rattle.linda_store_state.specs.State.{State, IsState}
use Rattle.linda_store_step.specs.Soft.{Soft, Bagged, IsSoft, OfAsking, no_asks, open_asks}
use Rattle.linda_store_step.specs.Looking.{IsLeast, passed_over, IsAtRest}
use Rattle.linda_store_step.specs.Dispatch.{Sends, no_sends, dispatch, on_cancel, on_close}
use Rattle.linda_store_step.specs.Asking.{only_sent, serve, on_ask, wait_of}
use Rattle.linda_store_state.specs.After.{IsAfter}
use Rattle.linda_store_step.specs.Answer.{Answer, only_sends, has_left, SaysAsk, IsAnswer, IsStep}
use Rattle.linda_store_step.specs.Judge.{to_put, to_take, to_leave, demand_of}
use Rattle.linda_store_step.specs.Store.{IsHere, IsOrderly}
use Rattle.linda_store_state.proofs.AfterLaws.{none_after, one_after}
use Rattle.linda_store_state.proofs.DoneLaws.{done, done_after}
use Rattle.linda_store_step.proofs.AnswerCourse.{Course, unnumbered, turned_down, told_again, stored, taken, passed, left, course_of}
use Rattle.linda_store_step.proofs.RestLaws.{put_rests, taken_rests, held_rests, waiting_rests, no_asks_rest, cancelling_rests, closing_rests}
use Rattle.linda_store_step.proofs.RangeLaws.{put_soft, taken_soft, offer_soft, waiting_soft, no_asks_soft, cancelling_soft, closing_soft}
use Rattle.linda_store_step.proofs.AnswerLaws.{step_state}
use Rattle.linda_store_step.proofs.SoftLaws.{cancelling_keeps, closing_keeps}
use Rattle.linda_store_step.proofs.PresentLaws.{fewer_asking, taken_asking, held_asking, waiting_asking}
use Rattle.linda_store_step.proofs.PresentLaws.{dispatched_asking, freed_asking, no_asking, asking_by, closed_asking}
use Rattle.linda_store_state.specs.After.{reply_of_deed, taken_reply}
use Rattle.linda_store_state.specs.Deed.{client_of, number_of}
use Rattle.linda_book.specs.Entries.{left_in, is_left}
use Rattle.linda_map_laws.proofs.MapLaws.{get_same, get_other}

-- Holds and waits are in their ranges beside a bag, and nobody waits in vain.
pub record IsSettled (bag : Bagged) (soft : Soft) : Type 0 where
  pub soft_is : IsSoft bag soft
  pub rest : IsAtRest bag soft

-- A request is served, given what it can have.
served_settled : (bag : Bagged) (request : Request) (remove : Bool) (shape : Template) (least : Option ℕ) (soft : Soft)
    → IsLeast bag shape (passed_over remove soft.holds) least
    → is_waiting request soft.waits ≡ false → IsHeldAt soft.holds request None → open_asks request.client soft < MAX_ASKS
    → IsSettled bag soft → IsSettled bag (serve bag request remove shape least soft).soft
served_settled bag request true shape (Some id) soft least never nothing room is = record {
  soft_is = offer_soft bag id request soft (ap is_some least.0.stored) never nothing room is.soft_is;
  rest = held_rests bag id request soft is.rest;
}
served_settled bag request false shape (Some id) soft least never nothing room is = is
served_settled bag request remove shape None soft least never nothing room is = record {
  soft_is = waiting_soft bag (wait_of request remove shape) soft never nothing room is.soft_is;
  rest = waiting_rests bag (wait_of request remove shape) soft least is.rest;
}

asking_settled : (bag : Bagged) (request : Request) (remove : Bool) (shape : Template) (held least : Option ℕ) (soft : Soft)
    → IsHeldAt soft.holds request held → IsLeast bag shape (passed_over remove soft.holds) least
    → IsSettled bag soft → IsSettled bag (on_ask bag request remove shape held least soft).soft
asking_settled bag request remove shape (Some id) least soft held found is = is
asking_settled bag request remove shape None least soft held found is = by (is_waiting request soft.waits) refl
  where
    fresh : (b : Bool) → nat_le MAX_ASKS (open_asks request.client soft) ≡ b → is_waiting request soft.waits ≡ false
        → IsSettled bag (cond b (only_sent ((request.client, (refused (refusals.TooManyAsks request.ticket))) ∷ []) soft)
        (serve bag request remove shape least soft)).soft
    fresh true many never = is
    fresh false few never = served_settled bag request remove shape least soft found never held (leb-false MAX_ASKS (open_asks request.client soft) few) is

    by : (b : Bool) → is_waiting request soft.waits ≡ b
        → IsSettled bag (cond b (no_sends soft)
        (cond (nat_le MAX_ASKS (open_asks request.client soft))
        (only_sent ((request.client, (refused (refusals.TooManyAsks request.ticket))) ∷ []) soft) (serve bag request remove shape least soft))).soft
    by true waits = is
    by false never = fresh (nat_le MAX_ASKS (open_asks request.client soft)) refl never

-- The client asks, and has not left.
asking_here : (P : ℕ → Type 0) (bag : Bagged) (request : Request) (remove : Bool) (shape : Template) (held least : Option ℕ) (soft : Soft)
    → P request.client → OfAsking P soft → OfAsking P (on_ask bag request remove shape held least soft).soft
asking_here P bag request remove shape (Some id) least soft own is = is
asking_here P bag request remove shape None least soft own is =
    elim (is_waiting request soft.waits) as
    (λ b. OfAsking P (cond b (no_sends soft)
    (cond (nat_le MAX_ASKS (open_asks request.client soft))
    (only_sent ((request.client, (refused (refusals.TooManyAsks request.ticket))) ∷ []) soft) (serve bag request remove shape least soft))).soft) [
      | true ↦ is
      | false ↦
          elim (nat_le MAX_ASKS (open_asks request.client soft)) as
          (λ b. OfAsking P (cond b (only_sent ((request.client, (refused (refusals.TooManyAsks request.ticket))) ∷ []) soft)
          (serve bag request remove shape least soft)).soft) [
            | true ↦ is
            | false ↦ served remove least
          ]
    ]
  where
    served : (remove : Bool) (least : Option ℕ) → OfAsking P (serve bag request remove shape least soft).soft
    served true (Some id) = held_asking P id request soft own is
    served false (Some id) = is
    served remove None = waiting_asking P (wait_of request remove shape) soft own is

-- A message without a deed leaves the state as it was.
same_state : (st new : State) → IsState st → IsAfter st [] new → st ≡ new
same_state st new ranges after = one_after st [] st new (none_after st ranges) after

module _ (st new : State) (soft : Soft) (c : ℕ) (is : IsOrderly st soft) where
  was : IsSettled st.bag soft
  was = record { soft_is = is.soft_is; rest = is.rest }

  -- what is sent for an Ask
  said_settled : (gone : Bool) (ticket : ℕ) (remove : Bool) (template : Template) (told : Sends)
      → SaysAsk gone st c ticket remove template soft told → IsSettled st.bag told.soft
  said_settled true ticket remove template told same = subst (λ (t : Sends). IsSettled st.bag t.soft) (sym same) was
  said_settled false ticket remove template told asked =
      subst (λ (t : Sends). IsSettled st.bag t.soft) (sym asked.told_is)
      (asking_settled st.bag (request_of c ticket) remove template asked.held asked.least soft asked.is_held asked.is_least was)

  said_present : (gone : Bool) → has_left st c ≡ gone → (ticket : ℕ) (remove : Bool) (template : Template) (told : Sends)
      → SaysAsk gone st c ticket remove template soft told → OfAsking (IsHere st) told.soft
  said_present true e ticket remove template told same = subst (λ (t : Sends). OfAsking (IsHere st) t.soft) (sym same) is.present
  said_present false e ticket remove template told asked =
      subst (λ (t : Sends). OfAsking (IsHere st) t.soft) (sym asked.told_is)
      (asking_here (IsHere st) st.bag (request_of c ticket) remove template asked.held asked.least soft e is.present)

  -- if nothing is done
  unchanged : (s : Soft) → IsSettled st.bag s → IsAfter st [] new → IsSettled new.bag s
  unchanged s settled after = subst (λ (x : State). IsSettled x.bag s) (same_state st new is.state_is after) settled

  cancel_settled : (request : Request) (held : Option ℕ) → IsSettled st.bag (on_cancel st.bag request held soft).soft
  cancel_settled request held = record {
    soft_is = cancelling_soft st.bag request held soft is.soft_is;
    rest = cancelling_rests st.bag request held soft is.rest;
  }

  -- what is only answered
  told_settled : (m : Message) (told : Sends) → demand_of m ≡ None → IsAnswer st soft c m (only_sends told) → IsSettled st.bag told.soft
  told_settled (Hello version client fresh) told none answer = subst (λ (a : Answer). IsSettled st.bag a.soft) (sym answer) was
  told_settled (Ask ticket remove template) told none answer =
      subst (λ (a : Answer). IsSettled st.bag a.soft) (sym answer.1.1) (said_settled (has_left st c) ticket remove template answer.0 answer.1.0)
  told_settled (Cancel ticket) told none answer =
      let given_up = answer.1.0 in
      subst (λ (a : Answer). IsSettled st.bag a.soft) (sym (answer.1.1 ∙ ap only_sends given_up.told_is)) (cancel_settled (request_of c ticket) given_up.held)
  told_settled (Out n tuple) told some answer = absurd (none-some (to_put n) (sym some))
  told_settled (Accept n ticket id) told some answer = absurd (none-some (to_take n) (sym some))
  told_settled (Leave n) told some answer = absurd (none-some (to_leave n) (sym some))

  told_present : (m : Message) (told : Sends) → demand_of m ≡ None → IsAnswer st soft c m (only_sends told) → OfAsking (IsHere st) told.soft
  told_present (Hello version client fresh) told none answer = subst (λ (a : Answer). OfAsking (IsHere st) a.soft) (sym answer) is.present
  told_present (Ask ticket remove template) told none answer =
      subst (λ (a : Answer). OfAsking (IsHere st) a.soft) (sym answer.1.1) (said_present (has_left st c) refl ticket remove template answer.0 answer.1.0)
  told_present (Cancel ticket) told none answer =
      let given_up = answer.1.0 in
      subst (λ (a : Answer). OfAsking (IsHere st) a.soft) (sym (answer.1.1 ∙ ap only_sends given_up.told_is))
      (cancelling_keeps st.bag (OfAsking (IsHere st)) (freed_asking (IsHere st) st.bag)
      (fewer_asking (IsHere st)) (request_of c ticket) given_up.held soft is.present)
  told_present (Out n tuple) told some answer = absurd (none-some (to_put n) (sym some))
  told_present (Accept n ticket id) told some answer = absurd (none-some (to_take n) (sym some))
  told_present (Leave n) told some answer = absurd (none-some (to_leave n) (sym some))

  -- A client that is here still is after another client's deed, and after one of its own that is no Leave.
  here_after : (d : Deed) (new : State) → IsAfter st (d ∷ []) new → (k : ℕ)
      → (k ≡ client_of d → is_left (reply_of_deed st [] d) ≡ false) → IsHere st k → IsHere new k
  here_after d new after k own here =
      ap (λ (s : State). has_left s k) (one_after st (d ∷ []) new (done st d) after (done_after st d is.state_is))
      ∙ elim (cases_eq k (client_of d)) [
        | inl same ↦ ap (λ i. left_in (get (done st d).book i)) same
            ∙ ap left_in (get_same st.book (client_of d) (number_of d, reply_of_deed st [] d)) ∙ own same
        | inr other ↦ ap left_in (get_other st.book (client_of d) (number_of d, reply_of_deed st [] d) k other) ∙ here
      ]

  taken_stays : (id : ℕ) (o : Option Tuple) → is_left (taken_reply id o) ≡ false
  taken_stays id None = refl
  taken_stays id (Some row) = refl

  close_present : OfAsking (IsHere st) (on_close st.bag c soft).soft
  close_present = closing_keeps st.bag (OfAsking (IsHere st)) (freed_asking (IsHere st) st.bag) (fewer_asking (IsHere st)) c soft is.present

  -- Nobody who left asks, after each course.
  present : (m : Message) (a : Answer) → Course st soft c m a → IsAfter st (option_to_list a.deed) new → OfAsking (IsHere new) a.soft
  present _ _ (unnumbered m told none answer) after =
      subst (λ (x : State). OfAsking (IsHere x) told.soft) (same_state st new is.state_is after) (told_present m told none answer)
  present _ _ (turned_down m d why asked verdict) after = subst (λ (x : State). OfAsking (IsHere x) soft) (same_state st new is.state_is after) is.present
  present _ _ (told_again m d reply asked verdict kept) after = subst (λ (x : State). OfAsking (IsHere x) soft) (same_state st new is.state_is after) is.present
  present _ _ (stored n tuple none) after =
      asking_by (IsHere st) (IsHere new) (dispatch st.next tuple soft).soft
      (λ k. here_after (deeds.Out c n tuple) new after k (λ e. refl)) (dispatched_asking (IsHere st) st.next tuple soft is.present)
  present _ _ (taken n ticket id row none held) after =
      asking_by (IsHere st) (IsHere new) (record { holds = remove soft.holds id; waits = soft.waits })
      (λ k. here_after (deeds.Take c n id) new after k (λ e. taken_stays id _)) (taken_asking (IsHere st) id soft is.present)
  present _ _ (passed n ticket id none held) after =
      asking_by (IsHere st) (IsHere new) soft (λ k. here_after (deeds.Pass c n id) new after k (λ e. refl)) is.present
  present _ _ (left n none) after =
      asking_by (λ k. IsHere st k × (k ≢ c)) (IsHere new) (on_close st.bag c soft).soft
      (λ k both. here_after (deeds.Leave c n) new after k (λ e. absurd (both.1 e)) both.0)
      (closed_asking (IsHere st) st.bag c soft is.soft_is close_present)

  -- the state after a deed is the one that it leads to
  after_deed : (d : Deed) (s : Soft) → IsSettled (done st d).bag s → IsAfter st (d ∷ []) new → IsSettled new.bag s
  after_deed d s settled after = subst (λ (x : State). IsSettled x.bag s) (one_after st (d ∷ []) (done st d) new (done_after st d is.state_is) after) settled

  -- the answer to a message settles, if the state is the one after its deed
  settled : (m : Message) (a : Answer) → Course st soft c m a → IsAfter st (option_to_list a.deed) new → IsSettled new.bag a.soft
  settled _ _ (unnumbered m told none answer) after = unchanged told.soft (told_settled m told none answer) after
  settled _ _ (turned_down m d why asked verdict) after = unchanged soft was after
  settled _ _ (told_again m d reply asked verdict kept) after = unchanged soft was after
  settled _ _ (stored n tuple none) after =
      after_deed (deeds.Out c n tuple) (dispatch st.next tuple soft).soft
      (record { soft_is = put_soft st.bag st.next tuple soft is.soft_is; rest = put_rests st.bag st.next tuple soft is.rest }) after
  settled _ _ (taken n ticket id row none held) after =
      after_deed (deeds.Take c n id) (record { holds = remove soft.holds id; waits = soft.waits })
      (record { soft_is = taken_soft st.bag id soft is.soft_is; rest = taken_rests st.bag id soft is.rest }) after
  settled _ _ (passed n ticket id none held) after = after_deed (deeds.Pass c n id) soft was after
  settled _ _ (left n none) after =
      after_deed (deeds.Leave c n) (on_close st.bag c soft).soft
      (record { soft_is = closing_soft st.bag c soft is.soft_is; rest = closing_rests st.bag c soft is.rest }) after

  pub step_orderly : (m : Message) (answered : Answer) → IsStep st soft c m answered new → IsOrderly new answered.soft
  step_orderly m answered step =
      let course = course_of st soft c m answered step.answer in
      let after = settled m answered course step.state_is in
      record {
        state_is = step_state st new soft c m answered is.state_is step;
        soft_is = after.soft_is;
        rest = after.rest;
        present = present m answered course step.state_is;
      }

-- A close keeps what a store keeps.
pub close_orderly : (st : State) (soft : Soft) (c : ℕ) → IsOrderly st soft → IsOrderly st (on_close st.bag c soft).soft
close_orderly st soft c is = record {
  state_is = is.state_is;
  soft_is = closing_soft st.bag c soft is.soft_is;
  rest = closing_rests st.bag c soft is.rest;
  present = close_present st st soft c is;
}

-- A server whose state is in its ranges is in order if nothing is held and nobody waits.
pub no_asks_orderly : (st : State) → IsState st → IsOrderly st no_asks
no_asks_orderly st is = record { state_is = is; soft_is = no_asks_soft st.bag; rest = no_asks_rest st.bag; present = no_asking (IsHere st) }

-- The two laws above, for state, holds and waits that are known by other names.
pub close_at : (old st : State) (was soft new : Soft) (c : ℕ) (sends : List (ℕ × Reply)) → old ≡ st → was ≡ soft
    → IsOrderly st soft → (let told : Sends = record { sends = sends; soft = new } in told) ≡ on_close old.bag c was → IsOrderly old new
close_at old st was soft new c sends same soft_same is told =
    subst (IsOrderly old) (sym (ap (λ (t : Sends). t.soft) told))
    (close_orderly old was c (subst (λ s. IsOrderly s was) (sym same) (subst (IsOrderly st) (sym soft_same) is)))

pub given_up_at : (old st : State) (soft new : Soft) → old ≡ st → IsOrderly st soft → new ≡ no_asks → IsOrderly old new
given_up_at old st soft new same is none = subst (IsOrderly old) (sym none) (no_asks_orderly old (subst IsState (sym same) is.state_is))

pub new_store_orderly : (st : State) (soft : Soft) → IsState st → soft ≡ no_asks → IsOrderly st soft
new_store_orderly st soft is none = subst (IsOrderly st) (sym none) (no_asks_orderly st is)
