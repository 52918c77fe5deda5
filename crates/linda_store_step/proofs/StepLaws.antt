-- Steps made of their parts: the answer to a message, and the state after its deed.
use Rattle.std.proofs.Common.{◌≡◌, ℕ, Bool, true, cond, List, [], ◌∷◌, Option, Some, None, option_to_list, Result, Ok}
use Rattle.std.proofs.Common.{Err, OnOk, IfOk, refl, sym, ap, ◌∙◌, subst}
use Rattle.std.proofs.lemmas.Option.{none-some}
use Rattle.std.specs.FinMap.{get, remove}
use Rattle.linda_tuple.specs.Tuple.{Tuple}
use Rattle.linda_tuple.specs.Template.{Template}
use Rattle.linda_hold.specs.declared.request.Request.{Request}
use Rattle.linda_hold.specs.Request.{request_of}
use Rattle.linda_hold.specs.Holds.{HeldFor}
use Rattle.linda_wire.specs.declared.message.Message.{Message}
use Rattle.linda_wire.specs.declared.message.Message.TheVariants.{Hello, Out, Ask, Accept, Cancel, Leave}
use Rattle.linda_wire.specs.declared.reply.Reply.{Reply}
use Rattle.linda_wire.specs.declared.reply.Reply.TheVariants as replies
use Rattle.linda_wire.specs.Refusal.{refused}
use Rattle.linda_wire.specs.declared.refusal.Refusal.TheVariants as refusals
use Rattle.linda_store_state.specs.declared.deed.Deed.{Deed}
use Rattle.linda_store_state.specs.declared.deed.Deed.TheVariants as deeds
use Rattle.linda_store_state.specs.State.{State, IsState}
use Rattle.linda_store_state.specs.After.{IsAfter}
use Rattle.linda_store_state.proofs.AfterLaws.{none_after}
use Rattle.linda_store_step.specs.Soft.{Soft, Bagged}
use Rattle.linda_store_step.specs.Store.{IsHere}
use Rattle.linda_store_step.specs.Dispatch.{Sends}
use Rattle.linda_store_step.specs.Asking.{only_sent, AnswersAsk, AnswersCancel}
use Rattle.linda_store_step.specs.Answer.{Answer, only_sends, only_reply, greeting, has_left, last_number}
use Rattle.linda_store_step.specs.Answer.{reply_to_numbered, on_out, on_accept, on_leave, is_for, held_tuple}
use Rattle.linda_store_step.specs.Answer.{take_or_pass, SaysAsk, IsAnswer, IsStep}

module _ (st : State) (soft : Soft) (c : ℕ) where
  -- What is answered without a deed is a step that leaves the state as it was.
  still_step : (m : Message) (whole answered : Answer) → IsState st → IsAnswer st soft c m whole
      → whole.deed ≡ None → answered ≡ whole → IsStep st soft c m answered st
  still_step m whole answered ranges answer none is = record {
    answer = subst (IsAnswer st soft c m) (sym is) answer;
    state_is = subst (λ d. IsAfter st (option_to_list d) st) (sym (ap (λ (a : Answer). a.deed) is ∙ none)) (none_after st ranges);
  }

  -- the parts of an answer that is one reply
  reply_alone : (reply : Reply) (deed : Option Deed) (sends : List (ℕ × Reply)) → deed ≡ None → sends ≡ (c, reply) ∷ []
      → (let a : Answer = record { deed = deed; sends = sends; soft = soft } in a) ≡ only_reply c reply soft
  reply_alone reply deed sends deed_is sends_is = λ i. record { deed = deed_is i; sends = sends_is i; soft = soft }

  -- A numbered message that makes no deed is answered with its reply.
  numbered_answer : (m : Message) (reply : Reply) → reply_to_numbered st c m ≡ Some reply → IsAnswer st soft c m (only_reply c reply soft)
  numbered_answer (Hello version client fresh) reply e = absurd (none-some reply e)
  numbered_answer (Out n tuple) reply e = sym (ap (λ o. on_out st c n tuple o soft) e)
  numbered_answer (Ask ticket remove template) reply e = absurd (none-some reply e)
  numbered_answer (Accept n ticket id) reply e = sym (ap (λ o. on_accept st c n ticket id o soft) e)
  numbered_answer (Cancel ticket) reply e = absurd (none-some reply e)
  numbered_answer (Leave n) reply e = sym (ap (λ o. on_leave st c n o soft) e)

  pub numbered_step : (m : Message) (reply : Reply) (deed : Option Deed) (sends : List (ℕ × Reply))
      → IsState st → reply_to_numbered st c m ≡ Some reply → deed ≡ None → sends ≡ (c, reply) ∷ []
      → IsStep st soft c m (record { deed = deed; sends = sends; soft = soft }) st
  numbered_step m reply deed sends ranges e deed_is sends_is =
      still_step m (only_reply c reply soft) _ ranges (numbered_answer m reply e) refl (reply_alone reply deed sends deed_is sends_is)

  -- The greeting of a Hello is a step.
  pub greeted_step : (m : Message) (version client : ℕ) (fresh : Bool) (deed : Option Deed) (sends : List (ℕ × Reply))
      → IsState st → m ≡ Hello version client fresh → deed ≡ None
      → sends ≡ (c, greeting st c version fresh) ∷ [] → IsStep st soft c m (record { deed = deed; sends = sends; soft = soft }) st
  greeted_step m version client fresh deed sends ranges m_is deed_is sends_is =
      subst (λ m. IsStep st soft c m (record { deed = deed; sends = sends; soft = soft }) st) (sym m_is)
      (still_step (Hello version client fresh) (only_reply c (greeting st c version fresh) soft) _ ranges refl refl
      (reply_alone (greeting st c version fresh) deed sends deed_is sends_is))

  -- And an Ask of a client that left is refused.
  pub refused_step : (ticket : ℕ) (remove : Bool) (template : Template) (deed : Option Deed) (sends : List (ℕ × Reply))
      → IsState st → has_left st c ≡ true → deed ≡ None
      → sends ≡ (c, refused (refusals.Left (last_number st c))) ∷ []
      → IsStep st soft c (Ask ticket remove template) (record { deed = deed; sends = sends; soft = soft }) st
  refused_step ticket remove template deed sends ranges gone deed_is sends_is =
      let told : Sends = only_sent ((c, refused (refusals.Left (last_number st c))) ∷ []) soft in
      still_step (Ask ticket remove template) (only_sends told) _ ranges
      (told, (subst (λ b. SaysAsk b st c ticket remove template soft told) (sym gone) refl, refl)) refl
      (reply_alone (refused (refusals.Left (last_number st c))) deed sends deed_is sends_is)

  -- The answer to an Ask, and to a Cancel, makes no deed.
  pub asked_step : (bag : Bagged) (ticket : ℕ) (remove : Bool) (template : Template) (deed : Option Deed) (sends items : List (ℕ × Reply)) (new : Soft)
      → IsState st → bag ≡ st.bag → IsHere st c → deed ≡ None → sends ≡ items
      → AnswersAsk bag (request_of c ticket) remove template soft (record { sends = items; soft = new })
      → IsStep st soft c (Ask ticket remove template) (record { deed = deed; sends = sends; soft = new }) st
  asked_step bag ticket remove template deed sends items new ranges bag_is here deed_is sends_is says =
      let told : Sends = record { sends = items; soft = new } in
      still_step (Ask ticket remove template) (only_sends told) _ ranges (
        told,
        (
          subst (λ b. SaysAsk b st c ticket remove template soft told) (sym here)
              (subst (λ b. AnswersAsk b (request_of c ticket) remove template soft told) bag_is says),
          refl,
        ),
      ) refl
      (λ i. record { deed = deed_is i; sends = sends_is i; soft = new })

  pub cancelled_step : (bag : Bagged) (ticket : ℕ) (deed : Option Deed) (sends items : List (ℕ × Reply)) (new : Soft)
      → IsState st → bag ≡ st.bag → deed ≡ None → sends ≡ items
      → AnswersCancel bag (request_of c ticket) soft (record { sends = items; soft = new })
      → IsStep st soft c (Cancel ticket) (record { deed = deed; sends = sends; soft = new }) st
  cancelled_step bag ticket deed sends items new ranges bag_is deed_is sends_is says =
      let told : Sends = record { sends = items; soft = new } in
      still_step (Cancel ticket) (only_sends told) _ ranges (told, (subst (λ b. AnswersCancel b (request_of c ticket) soft told) bag_is says, refl)) refl
      (λ i. record { deed = deed_is i; sends = sends_is i; soft = new })

  -- A message whose number answers nothing does its deed: an Out, an Accept and a Leave.
  pub put_step : (m : Message) (n : ℕ) (tuple : Tuple) (answered : Answer) (new : State) → m ≡ Out n tuple → reply_to_numbered st c m ≡ None
      → answered ≡ on_out st c n tuple None soft → IsAfter st (deeds.Out c n tuple ∷ []) new → IsStep st soft c m answered new
  put_step m n tuple answered new m_is none is after =
      subst (λ m. reply_to_numbered st c m ≡ None → IsStep st soft c m answered new) (sym m_is)
      (λ none. record {
        answer = is ∙ ap (λ o. on_out st c n tuple o soft) (sym none);
        state_is = subst (λ (a : Answer). IsAfter st (option_to_list a.deed) new) (sym is) after;
      })
      none

  pub accepted_step : (m : Message) (n ticket id : ℕ) (answered : Answer) (new : State) → m ≡ Accept n ticket id → reply_to_numbered st c m ≡ None
      → answered ≡ on_accept st c n ticket id None soft → IsAfter st (option_to_list answered.deed) new → IsStep st soft c m answered new
  accepted_step m n ticket id answered new m_is none is after =
      subst (λ m. reply_to_numbered st c m ≡ None → IsStep st soft c m answered new) (sym m_is)
      (λ none. record { answer = is ∙ ap (λ o. on_accept st c n ticket id o soft) (sym none); state_is = after })
      none

  pub left_step : (m : Message) (n : ℕ) (answered : Answer) (new : State) → m ≡ Leave n → reply_to_numbered st c m ≡ None
      → answered ≡ on_leave st c n None soft → IsAfter st (deeds.Leave c n ∷ []) new → IsStep st soft c m answered new
  left_step m n answered new m_is none is after =
      subst (λ m. reply_to_numbered st c m ≡ None → IsStep st soft c m answered new) (sym m_is)
      (λ none. record {
        answer = is ∙ ap (λ o. on_leave st c n o soft) (sym none);
        state_is = subst (λ (a : Answer). IsAfter st (option_to_list a.deed) new) (sym is) after;
      })
      none

-- The held tuple, by the test whether the tuple is held for the request.
held_is : (st : State) (soft : Soft) (request : Request) (id : ℕ) (held_for : Option Request) (found said : Bool) → held_for ≡ get soft.holds id
    → found ≡ is_for request held_for → found ≡ said → held_tuple st request id soft ≡ cond said (get st.bag id) None
held_is st soft request id held_for found said there is says = ap (λ b. cond b (get st.bag id) None) (sym (ap (is_for request) there) ∙ sym is ∙ says)

-- An Accept takes its tuple.
pub taken_answer : (st : State) (soft : Soft) (c n ticket id : ℕ) (held_for : Option Request)
    (found : Bool) (row : Tuple) (holds : HeldFor) (sends : List (ℕ × Reply))
    → held_for ≡ get soft.holds id → found ≡ is_for (request_of c ticket) held_for → found ≡ true
    → get st.bag id ≡ Some row → holds ≡ remove soft.holds id → sends ≡ (c, replies.Taken n id row) ∷ []
    → (let a : Answer = record { deed = Some (deeds.Take c n id); sends = sends; soft = record { holds = holds; waits = soft.waits } } in a)
    ≡ take_or_pass c n id (held_tuple st (request_of c ticket) id soft) soft
taken_answer st soft c n ticket id held_for found row holds sends there is says row_is holds_is sends_is =
    (λ i. record { deed = Some (deeds.Take c n id); sends = sends_is i; soft = record { holds = holds_is i; waits = soft.waits } })
    ∙ sym (ap (λ o. take_or_pass c n id o soft) (held_is st soft (request_of c ticket) id held_for found true there is says ∙ row_is))

-- An Accept of what is not held for it, or is not there, passes.
pub passed_answer : (st : State) (soft : Soft) (c n ticket id : ℕ) (held_for : Option Request)
    (found said : Bool) (deed : Option Deed) (sends : List (ℕ × Reply))
    → held_for ≡ get soft.holds id → found ≡ is_for (request_of c ticket) held_for → found ≡ said
    → cond said (get st.bag id) None ≡ None → deed ≡ Some (deeds.Pass c n id) → sends ≡ (c, replies.Gone n) ∷ []
    → (let a : Answer = record { deed = deed; sends = sends; soft = soft } in a) ≡ take_or_pass c n id (held_tuple st (request_of c ticket) id soft) soft
passed_answer st soft c n ticket id held_for found said deed sends there is says none deed_is sends_is =
    (λ i. record { deed = deed_is i; sends = sends_is i; soft = soft })
    ∙ sym (ap (λ o. take_or_pass c n id o soft) (held_is st soft (request_of c ticket) id held_for found said there is says ∙ none))

-- What holds at Ok, from what its parts say.
pub if_ok_on : {A E Q : Type 0} {P R : A → Type 0} (r : Result A E) → IfOk r P → OnOk r Q → ((a : A) → P a → Q → R a) → IfOk r R
if_ok_on (Ok a) p q then = then a p q
if_ok_on (Err e) p q then = tt

pub on_ok_if : {A E Q R : Type 0} {P : A → Type 0} (r : Result A E) → IfOk r P → OnOk r Q → ((a : A) → P a → Q → R) → OnOk r R
on_ok_if (Ok a) p q then = then a p q
on_ok_if (Err e) p q then = tt
