-- A message that did a deed and comes again gets the reply that it got first.
use Rattle.std.proofs.Common.{◌≡◌, ℕ, Bool, ◌<◌, ◌≤◌, Some, IfSome, IsSome, option_map, ap, ◌∙◌, subst, arith}
use Rattle.std.specs.FinMap.{get}
use Rattle.linda_wire.specs.declared.limits.TheConstants.{NUMBER_LIMIT}
use Rattle.linda_book.specs.declared.class.Class.TheVariants.{Kept}
use Rattle.linda_book.specs.declared.kept_reply.KeptReply.{KeptReply}
use Rattle.linda_book.specs.Entries.{Entry, left_in, number_in}
use Rattle.linda_book.specs.Classes.{class_of}
use Rattle.linda_wire.specs.declared.message.Message.{Message}
use Rattle.linda_store_state.specs.State.{State, IsState}
use Rattle.linda_store_step.specs.declared.judge.Demand.{Demand}
use Rattle.linda_store_step.specs.Soft.{Soft}
use Rattle.linda_store_step.specs.Answer.{Answer, reply_of_kept, standing_of, reply_by, without_deed, IsAnswer, IsStep}
use Rattle.linda_store_step.specs.Judge.{judge_class}
use Rattle.linda_store_step.specs.Promises.{IsAnsweredAgain}
use Rattle.linda_store_step.proofs.AnswerCourse.{course_of, undone_answer}
use Rattle.linda_store_step.proofs.AnswerLaws.{step_state}
use Rattle.linda_store_step.proofs.KeptLaws.{IsKeptBy, kept_by}

-- the last number, come again
last_class : (n : ℕ) (left : Bool) → 1 ≤ n → class_of n left n ≡ Kept
last_class n left low = grind (arith)

module _ (new later : State) (c : ℕ) (d : Demand) (same : get later.book c ≡ get new.book c) (is : IsState new) where
  low : (e : Entry) → get new.book c ≡ Some e → 1 ≤ e.0
  low e there = (subst (λ o. IfSome o (λ (e : Entry). (1 ≤ e.0) × (e.0 < NUMBER_LIMIT))) there (is.numbers c)).0

  -- there is a reply without a deed: the one that is kept
  kept_again : (reply : KeptReply) → get new.book c ≡ Some (d.n, reply) → without_deed later c d ≡ Some (reply_of_kept d.n reply)
  kept_again reply there =
      ap (λ class. reply_by later c d.n (judge_class d (standing_of later c) class))
      (ap (λ o. class_of (number_in o) (left_in o) d.n) (same ∙ there) ∙ last_class d.n (left_in (Some (d.n, reply))) (low (d.n, reply) there))
      ∙ ap (option_map (λ (e : Entry). reply_of_kept d.n e.1)) (same ∙ there)

-- A message that did a deed, and comes again while the client's entry is as that left it, gets the same reply, and nothing else is done.
pub answered_again : (st new later : State) (soft asks : Soft) (c : ℕ) (m : Message) (first again : Answer)
    → IsState st → IsStep st soft c m first new → IsSome first.deed
    → get later.book c ≡ get new.book c → IsAnswer later asks c m again → IsAnsweredAgain c first again asks
answered_again st new later soft asks c m first again is step some same answer =
    let found : IsKeptBy c m first.sends new = kept_by st new c is soft m first (course_of st soft c m first step.answer) some step.state_is in
    let reply = kept_again new later c found.demand same (step_state st new soft c m first is step) found.kept.reply found.kept.kept in
    record {
      reply = reply_of_kept found.demand.n found.kept.reply;
      others = found.kept.others;
      first_is = found.kept.first;
      again_is = undone_answer later asks c m again found.demand _ found.asked reply answer;
    }
