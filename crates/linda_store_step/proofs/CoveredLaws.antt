-- What is covered stays covered while more is done, and what is sent is covered.
use Rattle.std.proofs.Common.{◌≡◌, ℕ, ◌+◌, ◌<◌, inl, inr, true, ◌==◌, List, [], ◌∷◌, Option, Some, None, All}
use Rattle.std.proofs.Common.{option_to_list, cond, refl, sym, ap, ◌∙◌, subst, eqb-true, arith}
use Rattle.std.proofs.lemmas.Bool.{cases_Bool}
use Rattle.std.proofs.lemmas.List.Elements.{All-nil, All-append, All-weaker}
use Rattle.std.specs.FinMap.{get}
use Rattle.linda_wire.specs.declared.message.Message.{Message}
use Rattle.linda_wire.specs.declared.reply.Reply.{Reply}
use Rattle.linda_book.specs.declared.kept_reply.KeptReply.{KeptReply}
use Rattle.linda_book.specs.declared.kept_reply.KeptReply.TheVariants as kept
use Rattle.linda_book.specs.Entries.{number_in}
use Rattle.linda_store_state.specs.declared.deed.Deed.{Deed}
use Rattle.linda_store_state.specs.Deed.{client_of, number_of}
use Rattle.linda_store_state.specs.State.{State, IsState}
use Rattle.linda_store_state.specs.After.{IsAfter, entry_after, reply_of_deed}
use Rattle.linda_store_state.specs.Proper.{IsAllowed}
use Rattle.linda_store_step.specs.Soft.{Soft, Bagged}
use Rattle.linda_store_step.specs.Dispatch.{on_close}
use Rattle.linda_store_step.specs.Answer.{Answer, reply_of_kept, last_number, IsStep}
use Rattle.linda_store_step.specs.History.{Coming, says, hangs_up, Comes, History, Happens, first_then}
use Rattle.linda_store_step.proofs.AnswerLaws.{answer_allowed, step_state}
use Rattle.linda_store_step.specs.Replies.{reports_deed, KeepsReply, KeepsReports}
use Rattle.linda_store_step.specs.Covered.{number_in_reply, IsCovered}
use Rattle.linda_store_step.proofs.ReplyLaws.{step_backed, close_backed}

kept_number : (n : ℕ) (reply : KeptReply) → number_in_reply (reply_of_kept n reply) ≡ n
kept_number n (kept.Stored id) = refl
kept_number n (kept.Taken id tuple) = refl
kept_number n kept.Gone = refl
kept_number n kept.Left = refl

-- Nothing changes for a client whose entry stays.
same_entry : (st mid : State) (send : ℕ × Reply) → get mid.book send.0 ≡ get st.book send.0 → IsCovered st send → IsCovered mid send
same_entry st mid send same covered reports =
    elim (covered reports) [
      | inl low ↦ inl (subst (λ e. number_in_reply send.1 < number_in e) (sym same) low)
      | inr keeps ↦ inr (record { entry = keeps.entry; kept = same ∙ keeps.kept; reply = keeps.reply })
    ]

-- The client's last number rises.
passed : (st mid : State) (send : ℕ × Reply) → last_number mid send.0 ≡ last_number st send.0 + 1 → IsCovered st send → IsCovered mid send
passed st mid send more covered reports =
    elim (covered reports) [
      | inl low ↦ inl (omega (arith, low, more))
      | inr keeps ↦
          let n : number_in_reply send.1 ≡ keeps.entry.0 = ap number_in_reply keeps.reply ∙ kept_number keeps.entry.0 keeps.entry.1 in
          let last : last_number st send.0 ≡ keeps.entry.0 = ap number_in keeps.kept in
          inl (omega (arith, n, last, more))
    ]

-- One deed more, or none.
covered_behind : (st mid : State) (o : Option Deed) → IsAfter st (option_to_list o) mid
    → ((d : Deed) → o ≡ Some d → IsAllowed st d) → (send : ℕ × Reply) → IsCovered st send → IsCovered mid send
covered_behind st mid None after allowed send covered = same_entry st mid send (after.book send.0) covered
covered_behind st mid (Some d) after allowed send covered =
    elim (cases_Bool (client_of d == send.0)) [
      | inl own ↦
          let there : get mid.book send.0 ≡ Some (number_of d, reply_of_deed st [] d) = after.book send.0
          ∙ ap (λ b. entry_after st send.0 (cond b (Some ([], d)) None)) own in
          let next = (allowed d refl).number in
          let mine : number_of d ≡ last_number st send.0 + 1 = subst (λ c. number_of d ≡ last_number st c + 1) (eqb-true (client_of d) send.0 own) next in
          passed st mid send (ap number_in there ∙ mine) covered
      | inr other ↦ same_entry st mid send (after.book send.0 ∙ ap (λ b. entry_after st send.0 (cond b (Some ([], d)) None)) other) covered
    ]

-- What reports a deed and is kept is covered.
pub kept_covered : (st : State) (sends : List (ℕ × Reply)) → KeepsReports st sends → All (IsCovered st) sends
kept_covered st sends keeps = All-weaker (λ (send : ℕ × Reply). reports_deed send.1 ≡ true
    → KeepsReply st send.0 send.1) (IsCovered st) (λ send kept reports. inr (kept reports)) sends keeps

-- ---- one step, and one closing

pub step_covered : (st new : State) (soft : Soft) (c : ℕ) (m : Message) (answered : Answer) → IsState st
    → IsStep st soft c m answered new → (send : ℕ × Reply) → IsCovered st send → IsCovered new send
step_covered st new soft c m answered is step =
    covered_behind st new answered.deed step.state_is (λ d deed. answer_allowed st soft c m answered d is step.answer deed)

pub step_sends : (st new : State) (soft : Soft) (c : ℕ) (m : Message) (answered : Answer) → IsState st
    → IsStep st soft c m answered new → All (IsCovered new) answered.sends
step_sends st new soft c m answered is step = kept_covered new answered.sends (step_backed st new soft c m answered is step)

pub close_sends : (st : State) (bag : Bagged) (client : ℕ) (old : Soft) → All (IsCovered st) (on_close bag client old).sends
close_sends st bag client old = kept_covered st (on_close bag client old).sends (close_backed st bag client old)

-- ---- all that comes

-- What came to a server led from one state to another: the new one is in its ranges, what was covered is still covered, and so are the sends.
record Covers (st mid : State) (sends : List (ℕ × Reply)) : Type 0 where
  ranges : IsState mid
  stays : (send : ℕ × Reply) → IsCovered st send → IsCovered mid send
  sent : All (IsCovered mid) sends

coming_covers : (st mid : State) (soft : Soft) (x : Coming) (first : Answer) → IsState st → Comes st soft x first mid → Covers st mid first.sends
coming_covers st mid soft (says c m) first is comes = record {
  ranges = step_state st mid soft c m first is comes;
  stays = step_covered st mid soft c m first is comes;
  sent = step_sends st mid soft c m first is comes;
}
coming_covers st mid soft (hangs_up c) first is comes = record {
  ranges = subst IsState (sym comes.1) is;
  stays = λ send covered. subst (λ s. IsCovered s send) (sym comes.1) covered;
  sent = subst (λ l. All (IsCovered mid) l) (sym (ap (λ (a : Answer). a.sends) comes.0)) (close_sends mid st.bag c soft);
}

pub all_covered : (xs : List Coming) (st : State) (soft : Soft) (all : History) → IsState st → Happens st soft xs all
    → ((send : ℕ × Reply) → IsCovered st send → IsCovered all.state send) × All (IsCovered all.state) all.sends
all_covered [] st soft all is happens = (
  λ send covered. subst (λ (h : History). IsCovered h.state send) (sym happens) covered,
  subst (λ (h : History). All (IsCovered h.state) h.sends) (sym happens) (All-nil (IsCovered st)),
)
all_covered (x ∷ xs) st soft all is happens =
    let first : Answer = happens.0 in
    let mid : State = happens.1.0 in
    let later : History = happens.1.1.0 in
    let covers : Covers st mid first.sends = coming_covers st mid soft x first is happens.1.1.1.0 in
    let rest = all_covered xs mid first.soft later covers.ranges happens.1.1.1.1.0 in
    let whole : all ≡ first_then first later = happens.1.1.1.1.1 in (
      λ send covered. subst (λ (h : History). IsCovered h.state send) (sym whole) (rest.0 send (covers.stays send covered)),
      subst (λ (h : History). All (IsCovered h.state) h.sends) (sym whole)
          (All-append (IsCovered later.state) first.sends later.sends
          (All-weaker (IsCovered mid) (IsCovered later.state) rest.0 first.sends covers.sent) rest.1),
    )
