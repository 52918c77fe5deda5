-- All that comes to a server in order has an outcome: what a request looks up is found by going through the ids.
use Rattle.std.proofs.Common.{◌≡◌, ℕ, zero, suc, ◌<◌, Bool, true, false, true≢false, not, ◌&&◌, List, [], ◌∷◌, Option}
use Rattle.std.proofs.Common.{Some, None, IsSome, is_some, option_to_list, inl, inr, refl, sym, ap, ◌∙◌, arith}
use Rattle.std.proofs.lemmas.Bool.{cases_lt, and_parts, and_from, not-true, not_from_false}
use Rattle.std.specs.FinMap.{get}
use Rattle.linda_tuple.specs.Tuple.{Tuple}
use Rattle.linda_tuple.specs.Template.{Template}
use Rattle.linda_tuple.specs.Matching.{is_match}
use Rattle.linda_bag.specs.FreeMatch.{IsFreeMatch}
use Rattle.linda_hold.specs.declared.request.Request.{Request}
use Rattle.linda_hold.specs.Request.{request_of}
use Rattle.linda_hold.specs.Holds.{IsHeldAt}
use Rattle.linda_wire.specs.declared.message.Message.{Message}
use Rattle.linda_wire.specs.Refusal.{refused}
use Rattle.linda_wire.specs.declared.refusal.Refusal.TheVariants as refusals
use Rattle.linda_wire.specs.declared.message.Message.TheVariants as messages
use Rattle.linda_store_state.specs.declared.deed.Deed.{Deed}
use Rattle.linda_store_state.specs.State.{State, IsState}
use Rattle.linda_store_state.specs.After.{IsAfter}
use Rattle.linda_store_state.proofs.AfterLaws.{none_after, none_from_next}
use Rattle.linda_store_state.proofs.DoneLaws.{done, done_after}
use Rattle.linda_store_step.specs.Soft.{Soft}
use Rattle.linda_store_step.specs.Looking.{IsLeast, passed_over}
use Rattle.linda_store_step.specs.Dispatch.{Sends, on_cancel, on_close}
use Rattle.linda_store_step.specs.Asking.{on_ask, only_sent}
use Rattle.linda_store_step.specs.Answer.{Answer, only_sends, only_reply, greeting, on_out, out_without_deed, on_accept}
use Rattle.linda_store_step.specs.Answer.{accept_without_deed, on_leave, leave_without_deed, has_left, last_number}
use Rattle.linda_store_step.specs.Answer.{SaysAsk, is_for, IsAnswer, IsStep}
use Rattle.linda_store_step.specs.History.{Coming, says, hangs_up, Comes, History, Happens, nothing_yet, first_then}
use Rattle.linda_store_step.specs.Store.{IsOrderly}
use Rattle.linda_store_step.proofs.ApartLaws.{same_request_is, same_request_yes}
use Rattle.linda_store_step.proofs.OutcomeLaws.{came_orderly}

-- ---- the least number that passes a test

data Search (p : ℕ → Bool) (n : ℕ) : Type 0 where
  first : (k : ℕ) → p k ≡ true → ((j : ℕ) → j < k → p j ≡ false) → Search p n
  nowhere : ((j : ℕ) → j < n → p j ≡ false) → Search p n

search_with : (p : ℕ → Bool) (n : ℕ) (b : Bool) → p n ≡ b → Search p n → Search p (suc n)
search_with p n b e (first k passes before) = first k passes before
search_with p n true e (nowhere before) = first n e before
search_with p n false e (nowhere before) = nowhere at
  where
    at : (j : ℕ) → j < suc n → p j ≡ false
    at j below =
        elim (cases_lt j n) [
          | inl less ↦ before j less
          | inr from ↦ let same : n ≡ j = omega (arith, below, from) in ap p (sym same) ∙ e
        ]

search_below : (p : ℕ → Bool) (n : ℕ) → Search p n
search_below p zero = nowhere (λ j below. absurd (omega (arith, below)))
search_below p (suc n) = search_with p n (p n) refl (search_below p n)

-- ---- what is looked up

module _ (st : State) (is : IsState st) where
  -- what the bag has is below the next id
  in_bag_below : (id : ℕ) → IsSome (get st.bag id) → id < st.next
  in_bag_below id there =
      elim (cases_lt id st.next) [
        | inl below ↦ below
        | inr from ↦ absurd (true≢false (sym there ∙ ap is_some (none_from_next st is id from)))
      ]

  module _ (shape : Template) (passed : ℕ → Bool) where
    abbrev fits : Bool → Option Tuple → Bool
    fits over None = false
    fits over (Some tuple) = is_match shape tuple && not over

    free_if : (id : ℕ) → fits (passed id) (get st.bag id) ≡ true → IsFreeMatch st.bag shape passed id
    free_if id = by (get st.bag id) refl
      where
        by : (o : Option Tuple) → get st.bag id ≡ o → fits (passed id) o ≡ true → IsFreeMatch st.bag shape passed id
        by None there e = absurd (true≢false (sym e))
        by (Some tuple) there e =
            let parts = and_parts (is_match shape tuple) (not (passed id)) e in
            record { row = tuple; stored = there; matches = parts.0; free = not-true (passed id) parts.1 }

    fits_free : (id : ℕ) → IsFreeMatch st.bag shape passed id → fits (passed id) (get st.bag id) ≡ true
    fits_free id f =
        ap (fits (passed id)) f.stored ∙ and_from (is_match shape f.row) (not (passed id)) f.matches (not_from_false (passed id) f.free)

    least_of : (o : Option ℕ) × IsLeast st.bag shape passed o
    least_of = by (search_below (λ id. fits (passed id) (get st.bag id)) st.next)
      where
        by : Search (λ id. fits (passed id) (get st.bag id)) st.next → (o : Option ℕ) × IsLeast st.bag shape passed o
        by (first id passes before) = (Some id, (free_if id passes, λ k below f. true≢false (sym (fits_free k f) ∙ before k below)))
        by (nowhere before) = (None, λ k f. true≢false (sym (fits_free k f) ∙ before k (in_bag_below k (ap is_some f.stored))))

  module _ (soft : Soft) (there : (id : ℕ) → IsSome (get soft.holds id) → IsSome (get st.bag id)) (request : Request) where
    held_if : (o : Option Request) → is_for request o ≡ true → o ≡ Some request
    held_if None e = absurd (true≢false (sym e))
    held_if (Some other) e = ap (λ q. Some q) (same_request_is other request e)

    held_of : (o : Option ℕ) × IsHeldAt soft.holds request o
    held_of = by (search_below (λ id. is_for request (get soft.holds id)) st.next)
      where
        by : Search (λ id. is_for request (get soft.holds id)) st.next → (o : Option ℕ) × IsHeldAt soft.holds request o
        by (first id passes before) = (Some id, held_if (get soft.holds id) passes)
        by (nowhere before) = (
          None,
          λ id held.
              true≢false (sym (ap (is_for request) held ∙ same_request_yes request request refl) ∙ before id (in_bag_below id (there id (ap is_some held)))),
        )

  state_behind : (deed : Option Deed) → (new : State) × IsAfter st (option_to_list deed) new
  state_behind None = (st, none_after st is)
  state_behind (Some d) = (done st d, done_after st d is)

-- ---- answers

-- There is an outcome of each Ask.
said_of : (gone : Bool) (st : State) (soft : Soft) (c ticket : ℕ) (remove : Bool) (shape : Template)
    → IsOrderly st soft → (told : Sends) × SaysAsk gone st c ticket remove shape soft told
said_of true st soft c ticket remove shape orderly = (only_sent ((c, refused (refusals.Left (last_number st c))) ∷ []) soft, refl)
said_of false st soft c ticket remove shape orderly =
    let held = held_of st orderly.state_is soft orderly.soft_is.there (request_of c ticket) in
    let least = least_of st orderly.state_is shape (passed_over remove soft.holds) in (
      on_ask st.bag (request_of c ticket) remove shape held.0 least.0 soft,
      record { held = held.0; is_held = held.1; least = least.0; is_least = least.1; told_is = refl },
    )

answer_of : (st : State) (soft : Soft) (c : ℕ) (m : Message) → IsOrderly st soft → (answered : Answer) × IsAnswer st soft c m answered
answer_of st soft c (messages.Hello version client fresh) orderly = (only_reply c (greeting st c version fresh) soft, refl)
answer_of st soft c (messages.Out n tuple) orderly = (on_out st c n tuple (out_without_deed st c n) soft, refl)
answer_of st soft c (messages.Accept n ticket id) orderly = (on_accept st c n ticket id (accept_without_deed st c n) soft, refl)
answer_of st soft c (messages.Ask ticket remove shape) orderly =
    let said = said_of (has_left st c) st soft c ticket remove shape orderly in
    (only_sends said.0, (said.0, (said.1, refl)))
answer_of st soft c (messages.Cancel ticket) orderly =
    let held = held_of st orderly.state_is soft orderly.soft_is.there (request_of c ticket) in
    let told = on_cancel st.bag (request_of c ticket) held.0 soft in
    (only_sends told, (told, (record { held = held.0; is_held = held.1; told_is = refl }, refl)))
answer_of st soft c (messages.Leave n) orderly = (on_leave st c n (leave_without_deed st c n) soft, refl)

-- Each message has an answer, and each list of things to come an outcome.
pub step_of : (st : State) (soft : Soft) (c : ℕ) (m : Message) → IsOrderly st soft → (answered : Answer) × ((new : State) × IsStep st soft c m answered new)
step_of st soft c m orderly =
    let answer = answer_of st soft c m orderly in
    let new = state_behind st orderly.state_is answer.0.deed in
    (answer.0, (new.0, record { answer = answer.1; state_is = new.1 }))

coming_of : (st : State) (soft : Soft) (x : Coming) → IsOrderly st soft → (answered : Answer) × ((new : State) × Comes st soft x answered new)
coming_of st soft (says c m) orderly = step_of st soft c m orderly
coming_of st soft (hangs_up c) orderly = (only_sends (on_close st.bag c soft), (st, (refl, refl)))

pub outcome_of : (st : State) (soft : Soft) (xs : List Coming) → IsOrderly st soft → (all : History) × Happens st soft xs all
outcome_of st soft [] orderly = (nothing_yet st soft, refl)
outcome_of st soft (x ∷ xs) orderly =
    let one = coming_of st soft x orderly in
    let rest = outcome_of one.1.0 one.0.soft xs (came_orderly st one.1.0 soft x one.0 orderly one.1.1) in
    (first_then one.0 rest.0, (one.0, (one.1.0, (rest.0, (one.1.1, (rest.1, refl))))))
