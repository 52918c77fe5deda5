-- The reply to a deed is the first thing that is sent, and it is the one that the book keeps.
use Rattle.std.proofs.Common.{◌≡◌, ℕ, ◌+◌, List, [], ◌∷◌, Some, None, IsSome, option_to_list, refl, sym, ap, ◌∙◌, true≢false, arith}
use Rattle.std.specs.FinMap.{get}
use Rattle.linda_tuple.specs.Tuple.{Tuple}
use Rattle.linda_map_laws.proofs.MapLaws.{get_same}
use Rattle.linda_hold.specs.Request.{request_of}
use Rattle.linda_book.specs.declared.kept_reply.KeptReply.{KeptReply}
use Rattle.linda_book.specs.declared.kept_reply.KeptReply.TheVariants as kept
use Rattle.linda_wire.specs.declared.message.Message.{Message}
use Rattle.linda_wire.specs.declared.reply.Reply.{Reply}
use Rattle.linda_wire.specs.declared.reply.Reply.TheVariants as replies
use Rattle.linda_store_state.specs.declared.deed.Deed.{Deed}
use Rattle.linda_store_state.specs.declared.deed.Deed.TheVariants as deeds
use Rattle.linda_store_state.specs.Deed.{client_of, number_of}
use Rattle.linda_store_state.specs.State.{State, IsState}
use Rattle.linda_store_step.specs.declared.judge.Demand.{Demand}
use Rattle.linda_store_step.specs.Judge.{to_put, to_take, to_leave, demand_of}
use Rattle.linda_store_step.specs.Soft.{Soft}
use Rattle.linda_store_state.specs.After.{IsAfter, reply_of_deed, taken_reply}
use Rattle.linda_store_step.specs.Answer.{Answer, reply_of_kept, on_out, on_leave, IsStep}
use Rattle.linda_store_step.specs.Promises.{IsAnsweredAsKept}
use Rattle.linda_store_state.proofs.AfterLaws.{none_after, one_after}
use Rattle.linda_store_state.proofs.DoneLaws.{done, done_after}
use Rattle.linda_store_step.proofs.AnswerCourse.{Course, unnumbered, turned_down, told_again, stored, taken, passed, left, course_of}
use Rattle.linda_store_step.proofs.AnswerLaws.{held_there}

-- The first thing that is sent goes to the client, for this number of it, and it is what the book keeps.
pub record IsKeptFor (c n : ℕ) (sends : List (ℕ × Reply)) (st : State) : Type 0 where
  pub reply : KeptReply
  pub others : List (ℕ × Reply)
  pub kept : get st.book c ≡ Some (n, reply)
  pub first : sends ≡ (c, reply_of_kept n reply) ∷ others

-- The first thing that is sent goes to the client, for the number that the message bears, and the book keeps it.
pub record IsKeptBy (c : ℕ) (m : Message) (sends : List (ℕ × Reply)) (st : State) : Type 0 where
  pub demand : Demand
  pub asked : demand_of m ≡ Some demand
  pub kept : IsKeptFor c demand.n sends st

module _ (st new : State) (c : ℕ) (is : IsState st) where
  -- what the book has after a deed of the client
  entry_is : (d : Deed) → client_of d ≡ c → IsAfter st (d ∷ []) new → get new.book c ≡ Some (number_of d, reply_of_deed st [] d)
  entry_is d mine after =
      ap (λ s. get s.book c) (sym (one_after st (d ∷ []) (done st d) new (done_after st d is) after))
      ∙ ap (get (done st d).book) (sym mine)
      ∙ get_same st.book (client_of d) (number_of d, reply_of_deed st [] d)

  kept_as : (d : Deed) (n : ℕ) (reply : KeptReply) (sends others : List (ℕ × Reply)) → client_of d ≡ c
      → number_of d ≡ n → reply_of_deed st [] d ≡ reply → IsAfter st (d ∷ []) new
      → sends ≡ (c, reply_of_kept n reply) ∷ others → IsKeptFor c n sends new
  kept_as d n reply sends others mine number as_kept after first = record {
    reply = reply;
    others = others;
    kept = entry_is d mine after ∙ ap (λ (m : ℕ). Some (m, reply_of_deed st [] d)) number ∙ ap (λ (r : KeptReply). Some (n, r)) as_kept;
    first = first;
  }

  stored_at : st.next + 0 ≡ st.next
  stored_at = omega arith

  pub stored_kept : (n : ℕ) (tuple : Tuple) (soft : Soft) → IsAfter st (deeds.Out c n tuple ∷ []) new → IsKeptFor c n (on_out st c n tuple None soft).sends new
  stored_kept n tuple soft after = kept_as (deeds.Out c n tuple) n (kept.Stored st.next) _ _ refl refl (ap (λ id. kept.Stored id) stored_at) after refl

  pub taken_kept : (n id : ℕ) (row : Tuple) → get st.bag id ≡ Some row → IsAfter st (deeds.Take c n id ∷ []) new
      → IsKeptFor c n ((c, replies.Taken n id row) ∷ []) new
  taken_kept n id row there after =
      kept_as (deeds.Take c n id) n (kept.Taken id row) _ _ refl refl (ap (taken_reply id) (sym ((none_after st is).bag id) ∙ there)) after refl

  pub passed_kept : (n id : ℕ) → IsAfter st (deeds.Pass c n id ∷ []) new → IsKeptFor c n ((c, replies.Gone n) ∷ []) new
  passed_kept n id after = kept_as (deeds.Pass c n id) n kept.Gone _ _ refl refl refl after refl

  pub left_kept : (n : ℕ) (soft : Soft) → IsAfter st (deeds.Leave c n ∷ []) new → IsKeptFor c n (on_leave st c n None soft).sends new
  left_kept n soft after = kept_as (deeds.Leave c n) n kept.Left _ _ refl refl refl after refl

  -- A message that does a deed is answered with the reply that is kept for its number.
  pub kept_by : (soft : Soft) (m : Message) (a : Answer) → Course st soft c m a → IsSome a.deed
      → IsAfter st (option_to_list a.deed) new → IsKeptBy c m a.sends new
  kept_by soft _ _ (unnumbered m told none answer) some after = absurd (true≢false (sym some))
  kept_by soft _ _ (turned_down m d why asked verdict) some after = absurd (true≢false (sym some))
  kept_by soft _ _ (told_again m d reply asked verdict kept) some after = absurd (true≢false (sym some))
  kept_by soft _ _ (stored n tuple none) some after = record { demand = to_put n; asked = refl; kept = stored_kept n tuple soft after }
  kept_by soft _ _ (taken n ticket id row none held) some after =
      record { demand = to_take n; asked = refl; kept = taken_kept n id row (held_there st (request_of c ticket) id soft row held) after }
  kept_by soft _ _ (passed n ticket id none held) some after = record { demand = to_take n; asked = refl; kept = passed_kept n id after }
  kept_by soft _ _ (left n none) some after = record { demand = to_leave n; asked = refl; kept = left_kept n soft after }

  -- A step that does a deed is answered with the reply that is kept for it.
  pub answered_as_kept : (soft : Soft) (m : Message) (answered : Answer) → IsStep st soft c m answered new
      → IsSome answered.deed → IsAnsweredAsKept c answered.sends new
  answered_as_kept soft m answered step some =
      let found : IsKeptBy c m answered.sends new = kept_by soft m answered (course_of st soft c m answered step.answer) some step.state_is in
      record { entry = (found.demand.n, found.kept.reply); others = found.kept.others; kept = found.kept.kept; first = found.kept.first }
