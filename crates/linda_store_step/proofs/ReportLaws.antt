-- Which deed a step does, and how it is reported.
use Rattle.std.proofs.Common.{◌≡◌, ◌≢◌, ℕ, ◌+◌, Bool, true, false, true≢false, cond, ◌==◌, List, [], ◌∷◌, Option, Some}
use Rattle.std.proofs.Common.{None, is_some, refl, sym, ap, ◌∙◌, arith, eq-eqb, ne_eqb}
use Rattle.std.proofs.lemmas.Bool.{cond-true, cond-false}
use Rattle.std.proofs.lemmas.Option.{none-some, same_Some}
use Rattle.std.specs.FinMap.{get, remove}
use Rattle.linda_map_laws.proofs.MapLaws.{get_removed_same}
use Rattle.linda_hold.specs.Request.{request_of}
use Rattle.linda_wire.specs.declared.message.Message.{Message}
use Rattle.linda_wire.specs.declared.message.Message.TheVariants as messages
use Rattle.linda_wire.specs.declared.reply.Reply.{Reply}
use Rattle.linda_wire.specs.declared.reply.Reply.TheVariants as replies
use Rattle.linda_wire.specs.declared.refusal.Refusal.{Refusal}
use Rattle.linda_wire.specs.Refusal.{refused}
use Rattle.linda_store_state.specs.declared.deed.Deed.{Deed}
use Rattle.linda_store_state.specs.declared.deed.Deed.TheVariants as deeds
use Rattle.linda_store_state.specs.Deed.{client_of, number_of}
use Rattle.linda_store_state.specs.State.{State, IsState}
use Rattle.linda_book.specs.Entries.{number_in}
use Rattle.linda_store_step.specs.Judge.{number_asked}
use Rattle.linda_store_step.specs.Soft.{Soft}
use Rattle.linda_store_step.specs.Answer.{Answer, reply_of_kept, last_number, on_out, on_leave, held_tuple, is_for, IsStep}
use Rattle.linda_store_step.proofs.ApartLaws.{same_request_yes}
use Rattle.linda_store_step.proofs.AnswerCourse.{Course, unnumbered, turned_down, told_again, stored, taken, passed, left, course_of}
use Rattle.linda_store_step.proofs.NumberLaws.{allowed_out, allowed_pass, allowed_leave}
use Rattle.linda_store_step.specs.Reported.{HoldsWhatIsThere, DoesAsAsked, comes_next, deed_behind, number_of_message, reported_deed}

module _ (st : State) (c : ℕ) (old : Soft) where
  -- What was asked for is what is done.
  abbrev IsAsked : Message → Answer → Type 0
  IsAsked m a = (d : Deed) → a.deed ≡ Some d → DoesAsAsked c m a.soft d

  -- what cannot be taken, if all that is held is there, is not held for the request
  not_held : (ticket id : ℕ) → HoldsWhatIsThere st old → held_tuple st (request_of c ticket) id old ≡ None → get old.holds id ≢ Some (request_of c ticket)
  not_held ticket id there none held =
      let own : is_for (request_of c ticket) (get old.holds id) ≡ true = ap (is_for (request_of c ticket)) held
      ∙ same_request_yes (request_of c ticket) (request_of c ticket) refl in
      let missing : get st.bag id ≡ None = sym (cond-true (is_for (request_of c ticket) (get old.holds id)) (get st.bag id) None own) ∙ none in
      true≢false (sym (there id (ap is_some held)) ∙ ap is_some missing)

  asked : HoldsWhatIsThere st old → (m : Message) (a : Answer) → Course st old c m a → IsAsked m a
  asked there _ _ (unnumbered m told none answer) d is = absurd (none-some d is)
  asked there _ _ (turned_down m w why demand verdict) d is = absurd (none-some d is)
  asked there _ _ (told_again m w reply demand verdict kept) d is = absurd (none-some d is)
  asked there _ _ (stored n tuple none) d is =
      let same = same_Some (deeds.Out c n tuple) d is in
      record { client = ap client_of (sym same); number = ap (λ x. Some (number_of x)) same; let_go = tt }
  asked there _ _ (taken n ticket id row none held) d is =
      let same = same_Some (deeds.Take c n id) d is in
      record {
        client = ap client_of (sym same);
        number = ap (λ x. Some (number_of x)) same;
        let_go =
            λ h. none-some (request_of c ticket) (sym (get_removed_same old.holds id) ∙ h);
      }
  asked there _ _ (passed n ticket id none held) d is =
      let same = same_Some (deeds.Pass c n id) d is in
      record { client = ap client_of (sym same); number = ap (λ x. Some (number_of x)) same; let_go = not_held ticket id there held }
  asked there _ _ (left n none) d is =
      let same = same_Some (deeds.Leave c n) d is in
      record { client = ap client_of (sym same); number = ap (λ x. Some (number_of x)) same; let_go = tt }

-- A step does no deed but the one that is asked for.
pub step_asked : (st new : State) (c : ℕ) (old : Soft) (m : Message) (answered : Answer) (d : Deed)
    → HoldsWhatIsThere st old → IsStep st old c m answered new → answered.deed ≡ Some d → DoesAsAsked c m answered.soft d
step_asked st new c old m answered d there step = asked st c old there m answered (course_of st old c m answered step.answer) d

-- ---- how it is reported

-- Nothing is reported by a refusal.
refused_behind : (c : ℕ) (m : Message) (why : Refusal) → deed_behind c m ((c, refused why) ∷ []) ≡ None
refused_behind c (messages.Hello version client fresh) why = refl
refused_behind c (messages.Out n tuple) why = refl
refused_behind c (messages.Ask ticket remove shape) why = refl
refused_behind c (messages.Accept n ticket id) why = refl
refused_behind c (messages.Cancel ticket) why = refl
refused_behind c (messages.Leave n) why = refl

either_none : {X : Type 0} (b : Bool) (o : Option X) → o ≡ None → None ≡ cond b o None
either_none true o none = sym none
either_none false o none = refl

not_after_itself : (n last : ℕ) → last ≡ n → (n == last + 1) ≡ false
not_after_itself n last same = ne_eqb n (last + 1) (λ e. omega (arith, same, e))

module _ (st : State) (c : ℕ) (old : Soft) (is : IsState st) where
  abbrev IsReported : Message → Answer → Type 0
  IsReported m a = a.deed ≡ reported_deed c m (last_number st c) a.sends

  told : (m : Message) (n : ℕ) (sends : List (ℕ × Reply)) → n ≡ last_number st c + 1
      → deed_behind c m sends ≡ cond (n == last_number st c + 1) (deed_behind c m sends) None
  told m n sends next = sym (cond-true (n == last_number st c + 1) (deed_behind c m sends) None (eq-eqb n (last_number st c + 1) next))

  reported : (m : Message) (a : Answer) → Course st old c m a → IsReported m a
  reported _ _ (unnumbered m told none answer) = sym (ap (λ o. cond (comes_next (number_asked o) (last_number st c)) (deed_behind c m told.sends) None) none)
  reported _ _ (turned_down m d why asked verdict) =
      either_none (comes_next (number_of_message m) (last_number st c)) (deed_behind c m ((c, refused why) ∷ [])) (refused_behind c m why)
  reported _ _ (told_again m d reply asked verdict kept) =
      sym (ap (λ o. cond (comes_next (number_asked o) (last_number st c)) (deed_behind c m ((c, reply_of_kept d.n reply) ∷ [])) None) asked
      ∙ cond-false (d.n == last_number st c + 1) (deed_behind c m ((c, reply_of_kept d.n reply) ∷ [])) None
      (not_after_itself d.n (last_number st c) (ap number_in kept)))
  reported _ _ (stored n tuple none) = told (messages.Out n tuple) n (on_out st c n tuple None old).sends (allowed_out st c n is tuple none).number
  reported _ _ (taken n ticket id row none held) =
      told (messages.Accept n ticket id) n ((c, replies.Taken n id row) ∷ []) (allowed_pass st c n is none id).number
  reported _ _ (passed n ticket id none held) = told (messages.Accept n ticket id) n ((c, replies.Gone n) ∷ []) (allowed_pass st c n is none id).number
  reported _ _ (left n none) = told (messages.Leave n) n (on_leave st c n None old).sends (allowed_leave st c n is none).number

-- The deed of a step is the one that is reported.
pub step_reported : (st new : State) (c : ℕ) (old : Soft) (m : Message) (answered : Answer) → IsState st
    → IsStep st old c m answered new → answered.deed ≡ reported_deed c m (last_number st c) answered.sends
step_reported st new c old m answered is step = reported st c old is m answered (course_of st old c m answered step.answer)

-- What is reported by these numbers and sends is the deed of the step that has them.
pub as_reported : (c : ℕ) (m : Message) (last : ℕ) (sends : List (ℕ × Reply)) (o : Option Deed)
    → o ≡ reported_deed c m last sends → (st new : State) (old : Soft) (answered : Answer)
    → IsState st → IsStep st old c m answered new → last_number st c ≡ last → answered.sends ≡ sends → o ≡ answered.deed
as_reported c m last sends o o_is st new old answered is step last_is sends_is =
    o_is
    ∙ ap (λ l. reported_deed c m l sends) (sym last_is)
    ∙ ap (reported_deed c m (last_number st c)) (sym sends_is)
    ∙ sym (step_reported st new c old m answered is step)
