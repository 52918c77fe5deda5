-- The deed of a step is one that its message asks for.
use Rattle.std.proofs.Common.{◌≡◌, ℕ, Some, refl, sym, ap, subst}
use Rattle.std.proofs.lemmas.Option.{none-some, same_Some}
use Rattle.linda_wire.specs.declared.message.Message.{Message}
use Rattle.linda_wire.specs.declared.message.Message.TheVariants as messages
use Rattle.linda_store_state.specs.declared.deed.Deed.{Deed}
use Rattle.linda_store_state.specs.declared.deed.Deed.TheVariants as deeds
use Rattle.linda_store_state.specs.Deed.{client_of, number_of}
use Rattle.linda_store_state.specs.State.{State}
use Rattle.linda_store_step.specs.Soft.{Soft}
use Rattle.linda_store_step.specs.Answer.{Answer, IsStep}
use Rattle.linda_store_step.proofs.AnswerCourse.{Course, unnumbered, turned_down, told_again, stored, taken, passed, left, course_of}
use Rattle.linda_store_step.specs.Reported.{IsDeedOf, number_of_message}

pub step_deed : (st new : State) (c : ℕ) (old : Soft) (m : Message) (answered : Answer) (d : Deed)
    → IsStep st old c m answered new → answered.deed ≡ Some d → IsDeedOf c m d
step_deed st new c old m answered d step = by m answered (course_of st old c m answered step.answer)
  where
    by : (m : Message) (a : Answer) → Course st old c m a → a.deed ≡ Some d → IsDeedOf c m d
    by _ _ (unnumbered m told none answer) is = absurd (none-some d is)
    by _ _ (turned_down m w why asked verdict) is = absurd (none-some d is)
    by _ _ (told_again m w reply asked verdict kept) is = absurd (none-some d is)
    by _ _ (stored n tuple none) is = subst (IsDeedOf c (messages.Out n tuple)) (same_Some (deeds.Out c n tuple) d is) (refl, refl, refl)
    by _ _ (taken n ticket id row none held) is = subst (IsDeedOf c (messages.Accept n ticket id)) (same_Some (deeds.Take c n id) d is) (refl, refl, refl)
    by _ _ (passed n ticket id none held) is = subst (IsDeedOf c (messages.Accept n ticket id)) (same_Some (deeds.Pass c n id) d is) (refl, refl, refl)
    by _ _ (left n none) is = subst (IsDeedOf c (messages.Leave n)) (same_Some (deeds.Leave c n) d is) (refl, refl)

-- So it is the client's, and has the message's number.
pub deed_client : (c : ℕ) (m : Message) (d : Deed) → IsDeedOf c m d → client_of d ≡ c
deed_client c (messages.Out n tuple) (deeds.Out client m put) is = is.0
deed_client c (messages.Out n tuple) (deeds.Take client m other) is = absurd is
deed_client c (messages.Out n tuple) (deeds.Pass client m other) is = absurd is
deed_client c (messages.Out n tuple) (deeds.Leave client m) is = absurd is
deed_client c (messages.Accept n ticket id) (deeds.Out client m put) is = absurd is
deed_client c (messages.Accept n ticket id) (deeds.Take client m other) is = is.0
deed_client c (messages.Accept n ticket id) (deeds.Pass client m other) is = is.0
deed_client c (messages.Accept n ticket id) (deeds.Leave client m) is = absurd is
deed_client c (messages.Leave n) (deeds.Out client m put) is = absurd is
deed_client c (messages.Leave n) (deeds.Take client m other) is = absurd is
deed_client c (messages.Leave n) (deeds.Pass client m other) is = absurd is
deed_client c (messages.Leave n) (deeds.Leave client m) is = is.0
deed_client c (messages.Hello version client fresh) d is = absurd is
deed_client c (messages.Ask ticket remove shape) d is = absurd is
deed_client c (messages.Cancel ticket) d is = absurd is

pub deed_number : (c : ℕ) (m : Message) (d : Deed) → IsDeedOf c m d → number_of_message m ≡ Some (number_of d)
deed_number c (messages.Out n tuple) (deeds.Out client m put) is = ap Some (sym is.1)
deed_number c (messages.Out n tuple) (deeds.Take client m other) is = absurd is
deed_number c (messages.Out n tuple) (deeds.Pass client m other) is = absurd is
deed_number c (messages.Out n tuple) (deeds.Leave client m) is = absurd is
deed_number c (messages.Accept n ticket id) (deeds.Out client m put) is = absurd is
deed_number c (messages.Accept n ticket id) (deeds.Take client m other) is = ap Some (sym is.1)
deed_number c (messages.Accept n ticket id) (deeds.Pass client m other) is = ap Some (sym is.1)
deed_number c (messages.Accept n ticket id) (deeds.Leave client m) is = absurd is
deed_number c (messages.Leave n) (deeds.Out client m put) is = absurd is
deed_number c (messages.Leave n) (deeds.Take client m other) is = absurd is
deed_number c (messages.Leave n) (deeds.Pass client m other) is = absurd is
deed_number c (messages.Leave n) (deeds.Leave client m) is = ap Some (sym is.1)
deed_number c (messages.Hello version client fresh) d is = absurd is
deed_number c (messages.Ask ticket remove shape) d is = absurd is
deed_number c (messages.Cancel ticket) d is = absurd is

pub step_client : (st new : State) (c : ℕ) (old : Soft) (m : Message) (answered : Answer) (d : Deed)
    → IsStep st old c m answered new → answered.deed ≡ Some d → client_of d ≡ c
step_client st new c old m answered d step is = deed_client c m d (step_deed st new c old m answered d step is)
