-- Steps of a server: their deeds are allowed, so a run of steps does a proper list of deeds; and a message has one answer.
use Rattle.std.proofs.Common.{◌≡◌, ℕ, Bool, true, false, cond, List, [], ◌++◌, Option, Some, None, is_some}
use Rattle.std.proofs.Common.{option_to_list, refl, sym, ap, ◌∙◌, subst, append-nil}
use Rattle.std.proofs.lemmas.Option.{none-some, same_Some}
use Rattle.std.specs.FinMap.{get}
use Rattle.linda_tuple.specs.Tuple.{Tuple}
use Rattle.linda_tuple.specs.Template.{Template}
use Rattle.linda_hold.specs.declared.request.Request.{Request}
use Rattle.linda_hold.specs.Request.{request_of}
use Rattle.linda_hold.specs.Holds.{IsOneEach}
use Rattle.linda_wire.specs.declared.message.Message.{Message}
use Rattle.linda_wire.specs.declared.message.Message.TheVariants.{Hello, Out, Ask, Accept, Cancel, Leave}
use Rattle.linda_store_state.specs.declared.deed.Deed.{Deed}
use Rattle.linda_store_state.specs.declared.deed.Deed.TheVariants as deeds
use Rattle.linda_store_state.specs.State.{State, IsState}
use Rattle.linda_store_step.specs.Soft.{Soft}
use Rattle.linda_store_step.specs.Looking.{passed_over}
use Rattle.linda_store_step.specs.Dispatch.{Sends, on_cancel}
use Rattle.linda_store_step.specs.Asking.{on_ask, AnswersAsk, AnswersCancel}
use Rattle.linda_store_state.specs.After.{IsAfter}
use Rattle.linda_store_state.specs.Proper.{IsAllowed, IsProper}
use Rattle.linda_store_step.specs.Answer.{Answer, only_sends, is_for, held_tuple, has_left, SaysAsk, IsAnswer, IsStep}
use Rattle.linda_store_state.proofs.AfterLaws.{none_after, one_after, more_after}
use Rattle.linda_store_state.proofs.DoneLaws.{one_state}
use Rattle.linda_store_step.proofs.LookingLaws.{one_least, one_held}
use Rattle.linda_store_step.proofs.AnswerCourse.{Course, unnumbered, turned_down, told_again, stored, taken, passed, left, course_of}
use Rattle.linda_store_step.proofs.NumberLaws.{allowed_out, allowed_take, allowed_pass, allowed_leave}
use Rattle.linda_store_state.proofs.ProperLaws.{more_proper, takes_below, proper_state}

-- A held tuple is in the bag.
pub held_there : (st : State) (request : Request) (id : ℕ) (soft : Soft) (row : Tuple) → held_tuple st request id soft ≡ Some row → get st.bag id ≡ Some row
held_there st request id soft row = by (is_for request (get soft.holds id))
  where
    by : (b : Bool) → cond b (get st.bag id) None ≡ Some row → get st.bag id ≡ Some row
    by true some = some
    by false none = absurd (none-some row none)

-- The deed of an answer is allowed.
pub answer_allowed : (st : State) (soft : Soft) (c : ℕ) (m : Message) (answered : Answer) (d : Deed)
    → IsState st → IsAnswer st soft c m answered → answered.deed ≡ Some d → IsAllowed st d
answer_allowed st soft c m answered d ranges answer = by m answered (course_of st soft c m answered answer)
  where
    by : (m : Message) (a : Answer) → Course st soft c m a → a.deed ≡ Some d → IsAllowed st d
    by _ _ (unnumbered m told none answer) is = absurd (none-some d is)
    by _ _ (turned_down m w why asked verdict) is = absurd (none-some d is)
    by _ _ (told_again m w reply asked verdict kept) is = absurd (none-some d is)
    by _ _ (stored n tuple none) is = subst (IsAllowed st) (same_Some (deeds.Out c n tuple) d is) (allowed_out st c n ranges tuple none)
    by _ _ (taken n ticket id row none held) is =
        subst (IsAllowed st) (same_Some (deeds.Take c n id) d is)
        (allowed_take st c n ranges none id (ap is_some (held_there st (request_of c ticket) id soft row held)))
    by _ _ (passed n ticket id none held) is = subst (IsAllowed st) (same_Some (deeds.Pass c n id) d is) (allowed_pass st c n ranges none id)
    by _ _ (left n none) is = subst (IsAllowed st) (same_Some (deeds.Leave c n) d is) (allowed_leave st c n ranges none)

-- A step keeps the ranges of states.
pub step_state : (st new : State) (soft : Soft) (c : ℕ) (m : Message) (answered : Answer) → IsState st → IsStep st soft c m answered new → IsState new
step_state st new soft c m answered ranges step = by answered.deed refl
  where
    by : (deed : Option Deed) → answered.deed ≡ deed → IsState new
    by None e = subst IsState (one_after st [] st new (none_after st ranges) (subst (λ d. IsAfter st (option_to_list d) new) e step.state_is)) ranges
    by (Some d) e = one_state st new d ranges (answer_allowed st soft c m answered d ranges step.answer e)
        (subst (λ d. IsAfter st (option_to_list d) new) e step.state_is)

-- There is only one outcome of an Ask, and of a Cancel.
one_ask : (st : State) (request : Request) (remove : Bool) (soft : Soft) (shape : Template) (a b : Sends)
    → IsOneEach soft.holds → AnswersAsk st.bag request remove shape soft a → AnswersAsk st.bag request remove shape soft b → a ≡ b
one_ask st request remove soft shape a b one_each first second =
    first.told_is
    ∙ ap (λ held. on_ask st.bag request remove shape held first.least soft)
    (one_held soft.holds request first.held second.held one_each first.is_held second.is_held)
    ∙ ap (λ least. on_ask st.bag request remove shape second.held least soft)
    (one_least st.bag shape (passed_over remove soft.holds) first.least second.least first.is_least second.is_least)
    ∙ sym second.told_is

one_said : (gone : Bool) (st : State) (c ticket : ℕ) (remove : Bool) (shape : Template) (soft : Soft) (a b : Sends)
    → IsOneEach soft.holds → SaysAsk gone st c ticket remove shape soft a → SaysAsk gone st c ticket remove shape soft b → a ≡ b
one_said true st c ticket remove shape soft a b one_each first second = first ∙ sym second
one_said false st c ticket remove shape soft a b one_each first second = one_ask st (request_of c ticket) remove soft shape a b one_each first second

one_cancel : (st : State) (request : Request) (soft : Soft) (a b : Sends) → IsOneEach soft.holds
    → AnswersCancel st.bag request soft a → AnswersCancel st.bag request soft b → a ≡ b
one_cancel st request soft a b one_each first second =
    first.told_is
    ∙ ap (λ held. on_cancel st.bag request held soft) (one_held soft.holds request first.held second.held one_each first.is_held second.is_held)
    ∙ sym second.told_is

-- There is only one answer.
pub one_answer : (st : State) (soft : Soft) (c : ℕ) (m : Message) (a b : Answer) → IsOneEach soft.holds
    → IsAnswer st soft c m a → IsAnswer st soft c m b → a ≡ b
one_answer st soft c (Hello version client fresh) a b one_each first second = first ∙ sym second
one_answer st soft c (Out n tuple) a b one_each first second = first ∙ sym second
one_answer st soft c (Accept n ticket id) a b one_each first second = first ∙ sym second
one_answer st soft c (Ask ticket remove template) a b one_each first second =
    first.1.1 ∙ ap only_sends (one_said (has_left st c) st c ticket remove template soft first.0 second.0 one_each first.1.0 second.1.0) ∙ sym second.1.1
one_answer st soft c (Cancel ticket) a b one_each first second =
    first.1.1 ∙ ap only_sends (one_cancel st (request_of c ticket) soft first.0 second.0 one_each first.1.0 second.1.0) ∙ sym second.1.1
one_answer st soft c (Leave n) a b one_each first second = first ∙ sym second

-- The deed of a step, if it has one, makes a proper list longer, and the new state is the state after that.
pub step_proper : (st mid new : State) (soft : Soft) (ds : List Deed) (c : ℕ) (m : Message) (answered : Answer)
    → IsState st → IsProper st ds → IsAfter st ds mid → IsStep mid soft c m answered new
    → IsProper st (ds ++ option_to_list answered.deed) × IsAfter st (ds ++ option_to_list answered.deed) new
step_proper st mid new soft ds c m answered ranges proper after step = by answered.deed refl
  where
    by : (deed : Option Deed) → answered.deed ≡ deed → IsProper st (ds ++ option_to_list deed) × IsAfter st (ds ++ option_to_list deed) new
    by None e =
        let same : mid ≡ new = one_after mid [] mid new (none_after mid (proper_state st mid ds ranges proper after))
        (subst (λ d. IsAfter mid (option_to_list d) new) e step.state_is) in
        (subst (IsProper st) (sym (append-nil ds)) proper, subst (λ l. IsAfter st l new) (sym (append-nil ds)) (subst (IsAfter st ds) same after))
    by (Some d) e =
        let middle = proper_state st mid ds ranges proper after in
        let done = subst (λ d. IsAfter mid (option_to_list d) new) e step.state_is in (
          more_proper st mid ds d proper after (answer_allowed mid soft c m answered d middle step.answer e),
          more_after st mid new ds d after done (takes_below st ds ranges proper),
        )
