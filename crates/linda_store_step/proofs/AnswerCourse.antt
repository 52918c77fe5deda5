-- The courses of an answer: what each message comes to, gone through once.
use Rattle.std.proofs.Common.{◌≡◌, ℕ, [], ◌∷◌, Option, Some, None, option_map, refl, sym, ap, ◌∙◌, subst}
use Rattle.std.proofs.lemmas.Option.{none-some, same_Some}
use Rattle.std.specs.FinMap.{get}
use Rattle.linda_tuple.specs.Tuple.{Tuple}
use Rattle.linda_hold.specs.Request.{request_of}
use Rattle.linda_wire.specs.declared.message.Message.{Message}
use Rattle.linda_wire.specs.declared.message.Message.TheVariants.{Hello, Out, Ask, Accept, Cancel, Leave}
use Rattle.linda_wire.specs.declared.refusal.Refusal.{Refusal}
use Rattle.linda_wire.specs.declared.reply.Reply.{Reply}
use Rattle.linda_wire.specs.Refusal.{refused}
use Rattle.linda_book.specs.declared.kept_reply.KeptReply.{KeptReply}
use Rattle.linda_book.specs.Entries.{Entry, number_in}
use Rattle.linda_store_state.specs.State.{State}
use Rattle.linda_store_step.specs.declared.judge.Demand.{Demand}
use Rattle.linda_store_step.specs.declared.judge.Verdict.{Verdict}
use Rattle.linda_store_step.specs.declared.judge.Verdict.TheVariants.{Refused, Repeated, Done}
use Rattle.linda_store_step.specs.Judge.{to_put, to_take, to_leave, demand_of, judge}
use Rattle.linda_store_step.specs.Soft.{Soft}
use Rattle.linda_store_step.specs.Dispatch.{Sends}
use Rattle.linda_store_step.specs.Answer.{Answer, only_sends, only_reply, greeting, reply_of_kept, standing_of}
use Rattle.linda_store_step.specs.Answer.{reply_by, without_deed, out_without_deed, accept_without_deed}
use Rattle.linda_store_step.specs.Answer.{leave_without_deed, on_out, on_accept, on_leave, held_tuple, take_or_pass}
use Rattle.linda_store_step.specs.Answer.{IsAnswer}
use Rattle.linda_store_step.proofs.JudgeLaws.{IsVerdict, verdict_means}

-- A message without a number is only answered. One with a number is refused; or it is the last one come again, and gets
-- the reply that is kept; or it does its deed: an Out stores its tuple, an Accept takes the one held for it or passes, and
-- by a Leave the client is gone.
pub data Course (st : State) (soft : Soft) (c : ℕ) : Message → Answer → Type 0 where
  unnumbered : (m : Message) (told : Sends) → demand_of m ≡ None → IsAnswer st soft c m (only_sends told) → Course st soft c m (only_sends told)
  turned_down : (m : Message) (d : Demand) (why : Refusal) → demand_of m ≡ Some d
      → judge d (standing_of st c) ≡ Refused why → Course st soft c m (only_reply c (refused why) soft)
  told_again : (m : Message) (d : Demand) (reply : KeptReply) → demand_of m ≡ Some d → judge d (standing_of st c) ≡ Repeated → get st.book c ≡ Some (d.n, reply)
      → Course st soft c m (only_reply c (reply_of_kept d.n reply) soft)
  stored : (n : ℕ) (tuple : Tuple) → out_without_deed st c n ≡ None → Course st soft c (Out n tuple) (on_out st c n tuple None soft)
  taken : (n ticket id : ℕ) (row : Tuple) → accept_without_deed st c n ≡ None → held_tuple st (request_of c ticket) id soft ≡ Some row
      → Course st soft c (Accept n ticket id) (take_or_pass c n id (Some row) soft)
  passed : (n ticket id : ℕ) → accept_without_deed st c n ≡ None → held_tuple st (request_of c ticket) id soft ≡ None
      → Course st soft c (Accept n ticket id) (take_or_pass c n id None soft)
  left : (n : ℕ) → leave_without_deed st c n ≡ None → Course st soft c (Leave n) (on_leave st c n None soft)

module _ (st : State) (soft : Soft) (c : ℕ) where
  undone_course : (m : Message) (d : Demand) (r : Reply) → demand_of m ≡ Some d → without_deed st c d ≡ Some r → Course st soft c m (only_reply c r soft)
  undone_course m d r asked = by (judge d (standing_of st c)) refl (verdict_means d (standing_of st c))
    where
      kept_by : (o : Option Entry) → get st.book c ≡ o → judge d (standing_of st c) ≡ Repeated
          → d.n ≡ number_in o → option_map (λ (e : Entry). reply_of_kept d.n e.1) o ≡ Some r
          → Course st soft c m (only_reply c r soft)
      kept_by None there verdict same is = absurd (none-some r is)
      kept_by (Some entry) there verdict same is =
          subst (λ s. Course st soft c m (only_reply c s soft)) (same_Some (reply_of_kept d.n entry.1) r is)
          (told_again m d entry.1 asked verdict (there ∙ ap (λ n. Some (n, entry.1)) (sym same)))

      by : (v : Verdict) → judge d (standing_of st c) ≡ v → IsVerdict d (standing_of st c) v
          → reply_by st c d.n v ≡ Some r → Course st soft c m (only_reply c r soft)
      by (Refused why) verdict means is = subst (λ s. Course st soft c m (only_reply c s soft))
          (same_Some (refused why) r is) (turned_down m d why asked verdict)
      by Repeated verdict means is = kept_by (get st.book c) refl verdict means.0 is
      by Done verdict means is = absurd (none-some r is)

  out_course : (n : ℕ) (tuple : Tuple) (o : Option Reply) → out_without_deed st c n ≡ o → Course st soft c (Out n tuple) (on_out st c n tuple o soft)
  out_course n tuple (Some r) e = undone_course (Out n tuple) (to_put n) r refl e
  out_course n tuple None e = stored n tuple e

  held_course : (n ticket id : ℕ) (o : Option Tuple) → held_tuple st (request_of c ticket) id soft ≡ o → accept_without_deed st c n ≡ None
      → Course st soft c (Accept n ticket id) (take_or_pass c n id o soft)
  held_course n ticket id (Some row) held none = taken n ticket id row none held
  held_course n ticket id None held none = passed n ticket id none held

  accept_course : (n ticket id : ℕ) (o : Option Reply) → accept_without_deed st c n ≡ o
      → Course st soft c (Accept n ticket id) (on_accept st c n ticket id o soft)
  accept_course n ticket id (Some r) e = undone_course (Accept n ticket id) (to_take n) r refl e
  accept_course n ticket id None e = held_course n ticket id (held_tuple st (request_of c ticket) id soft) refl e

  leave_course : (n : ℕ) (o : Option Reply) → leave_without_deed st c n ≡ o → Course st soft c (Leave n) (on_leave st c n o soft)
  leave_course n (Some r) e = undone_course (Leave n) (to_leave n) r refl e
  leave_course n None e = left n e

  -- Each answer takes a course.
  pub course_of : (m : Message) (a : Answer) → IsAnswer st soft c m a → Course st soft c m a
  course_of (Hello version client fresh) a answer =
      subst (Course st soft c (Hello version client fresh)) (sym answer)
      (unnumbered (Hello version client fresh) (record { sends = (c, greeting st c version fresh) ∷ []; soft = soft }) refl refl)
  course_of (Out n tuple) a answer = subst (Course st soft c (Out n tuple)) (sym answer) (out_course n tuple (out_without_deed st c n) refl)
  course_of (Accept n ticket id) a answer = subst (Course st soft c (Accept n ticket id)) (sym answer)
      (accept_course n ticket id (accept_without_deed st c n) refl)
  course_of (Ask ticket remove template) a answer =
      subst (Course st soft c (Ask ticket remove template)) (sym answer.1.1)
      (unnumbered (Ask ticket remove template) answer.0 refl (answer.0, (answer.1.0, refl)))
  course_of (Cancel ticket) a answer =
      subst (Course st soft c (Cancel ticket)) (sym answer.1.1) (unnumbered (Cancel ticket) answer.0 refl (answer.0, (answer.1.0, refl)))
  course_of (Leave n) a answer = subst (Course st soft c (Leave n)) (sym answer) (leave_course n (leave_without_deed st c n) refl)

  -- If there is a reply without a deed, it is the whole answer.
  pub undone_answer : (m : Message) (a : Answer) (d : Demand) (r : Reply) → demand_of m ≡ Some d
      → without_deed st c d ≡ Some r → IsAnswer st soft c m a → a ≡ only_reply c r soft
  undone_answer (Out n tuple) a d r asked e answer = answer ∙ ap (λ o. on_out st c n tuple o soft) (ap (without_deed st c) (same_Some (to_put n) d asked) ∙ e)
  undone_answer (Accept n ticket id) a d r asked e answer = answer
      ∙ ap (λ o. on_accept st c n ticket id o soft) (ap (without_deed st c) (same_Some (to_take n) d asked) ∙ e)
  undone_answer (Leave n) a d r asked e answer = answer ∙ ap (λ o. on_leave st c n o soft) (ap (without_deed st c) (same_Some (to_leave n) d asked) ∙ e)
  undone_answer (Hello version client fresh) a d r none e answer = absurd (none-some d none)
  undone_answer (Ask ticket remove template) a d r none e answer = absurd (none-some d none)
  undone_answer (Cancel ticket) a d r none e answer = absurd (none-some d none)
