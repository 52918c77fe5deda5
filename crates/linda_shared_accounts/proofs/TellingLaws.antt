-- The receipts that are reported for messages that were answered are true of their deeds.
use Rattle.std.proofs.Common.{◌≡◌, ℕ, ◌≤◌, cond, drop, List, [], ◌∷◌, ◌++◌, map, length, Option, Some, None}
use Rattle.std.proofs.Common.{option_to_list, refl, sym, ap, ◌∙◌, subst, append-nil, append_assoc, arith}
use Rattle.std.proofs.Math.Seq.{drop-append_seam}
use Rattle.std.proofs.lemmas.List.{length-map, drop_all}
use Rattle.linda_wire.specs.declared.message.Message.{Message}
use Rattle.linda_wire.specs.declared.reply.Reply.{Reply}
use Rattle.linda_book.specs.declared.kept_reply.KeptReply.{KeptReply}
use Rattle.linda_book.specs.declared.kept_reply.KeptReply.TheVariants as kept
use Rattle.linda_book.specs.Entries.{Entry}
use Rattle.linda_store_state.specs.declared.deed.Deed.{Deed}
use Rattle.linda_store_state.specs.Deed.{client_of}
use Rattle.linda_store_state.specs.State.{State, IsState}
use Rattle.linda_store_state.specs.After.{reply_of_deed}
use Rattle.linda_store_state.specs.Proper.{AreDone}
use Rattle.linda_store_state.proofs.ProperLaws.{none_done, proper_state}
use Rattle.linda_store_state.proofs.ReplyLaws.{reply_behind, entry_behind}
use Rattle.linda_store_step.specs.Soft.{Soft}
use Rattle.linda_store_step.specs.Answer.{Answer, reply_of_kept, IsStep}
use Rattle.linda_store_step.specs.Promises.{IsAnsweredAsKept}
use Rattle.linda_store_step.proofs.AnswerLaws.{step_proper}
use Rattle.linda_store_step.proofs.KeptLaws.{answered_as_kept}
use Rattle.linda_store_step.proofs.AskedLaws.{step_client}
use Rattle.linda_store_step.specs.declared.served.Served.{Served}
use Rattle.linda_store_step.specs.declared.served.StepCounts.{StepCounts}
use Rattle.linda_store_step.specs.Served.{AreAnswered, IsServed, deeds_of, sends_of, counts_of}
use Rattle.linda_shared_accounts.specs.declared.receipt.Receipt.{Receipt}
use Rattle.linda_shared_accounts.specs.Receipts.{deeds_in, AreTrue}
use Rattle.linda_shared_accounts.specs.Telling.{kept_of, receipt_with, receipt_for, receipt_of, receipts_in, told_by, HasTold, IsTrueOf}

-- ---- one answer

kept_again : (n : ℕ) (reply : KeptReply) → kept_of (reply_of_kept n reply) ≡ Some reply
kept_again n (kept.Stored id) = refl
kept_again n (kept.Taken id tuple) = refl
kept_again n kept.Gone = refl
kept_again n kept.Left = refl

abbrev answer_with : Option Deed → List (ℕ × Reply) → Soft → Answer
answer_with deed sends soft = record { deed = deed; sends = sends; soft = soft }

-- The receipts of these answers are true, and are also those that the counts give.
record IsGood (base : State) (ds : List Deed) (answers : List Answer) (new : State) : Type 0 where
  pub is_true : IsTrueOf base ds answers new
  pub told : told_by (map counts_of answers) (deeds_of answers) (sends_of answers) ≡ map receipt_of answers

one_good : (base st mid new : State) (ds : List Deed) (c : ℕ) (m : Message) (soft behind : Soft)
    (o : Option Deed) (sends : List (ℕ × Reply)) (later : List Answer)
    → IsState base → AreDone base ds st → IsStep st soft c m (answer_with o sends behind) mid
    → IsGood base (ds ++ option_to_list o) later new → IsGood base ds (answer_with o sends behind ∷ later) new
one_good base st mid new ds c m soft behind None sends later is done step rest = record {
  is_true = record {
    done = subst (λ l. AreDone base (l ++ deeds_of later) new) (append-nil ds) rest.is_true.done;
    deeds = rest.is_true.deeds;
    replies = subst (λ l. AreTrue base l (receipts_in (map receipt_of later))) (append-nil ds) rest.is_true.replies;
  };
  told = ap (λ l. None ∷ told_by (map counts_of later) (deeds_of later) l) (drop-append_seam sends (sends_of later)) ∙ ap (λ l. None ∷ l) rest.told;
}
one_good base st mid new ds c m soft behind (Some d) sends later is done step rest =
    let a : Answer = answer_with (Some d) sends behind in
    let st_is : IsState st = proper_state base st ds is done.proper done.after in
    let told : IsAnsweredAsKept c sends mid = answered_as_kept st mid c st_is soft m a step refl in
    let entry : Entry = told.entry in
    let r : Receipt = record { deed = d; reply = entry.1 } in
    let more : List (ℕ × Reply) = sends_of later in
    let told_one : receipt_for (Some d) sends ≡ Some r = ap (receipt_for (Some d)) told.first ∙ ap (receipt_with d) (kept_again entry.0 entry.1) in
    let told_first : receipt_for (Some d) (sends ++ more) ≡ Some r = ap (λ l. receipt_for (Some d) (l ++ more)) told.first
    ∙ ap (receipt_with d) (kept_again entry.0 entry.1) in
    let receipts : receipts_in (map receipt_of (a ∷ later)) ≡ r ∷ receipts_in (map receipt_of later) =
    ap (λ o. option_to_list o ++ receipts_in (map receipt_of later)) told_one in
    let mine : client_of d ≡ c = step_client st mid c soft m a d step refl in
    let reply : entry.1 ≡ reply_of_deed base ds d = entry_behind st mid d c entry step.state_is mine told.kept ∙ reply_behind base st ds d st_is done.after in
    record {
      is_true = record {
        done = subst (λ l. AreDone base l new) (append_assoc ds (d ∷ []) (deeds_of later)) rest.is_true.done;
        deeds = ap deeds_in receipts ∙ ap (λ l. d ∷ l) rest.is_true.deeds;
        replies = subst (AreTrue base ds) (sym receipts) (reply, rest.is_true.replies);
      };
      told = ap (λ l. receipt_for (Some d) (sends ++ more) ∷ told_by (map counts_of later) (deeds_of later) l) (drop-append_seam sends more)
          ∙ (ap (λ o. o ∷ told_by (map counts_of later) (deeds_of later) more) (told_first ∙ sym told_one)
          ∙ ap (λ l. receipt_for (Some d) sends ∷ l) rest.told);
    }

-- ---- all of them

all_good : (base : State) → IsState base → (ms : List (ℕ × Message)) (st new : State) (soft behind : Soft) (ds : List Deed) (answers : List Answer)
    → AreDone base ds st → AreAnswered st soft ms answers new behind → IsGood base ds answers new
all_good base is [] st new soft behind ds answers done are =
    subst (λ l. IsGood base ds l new) (sym are.0)
    (record {
      is_true = record {
        done = subst (λ l. AreDone base l new) (sym (append-nil ds)) (subst (AreDone base ds) (sym are.1.0) done);
        deeds = refl;
        replies = tt;
      };
      told = refl;
    })
all_good base is (m ∷ ms) st new soft behind ds answers done are =
    let first : Answer = are.0 in
    let mid : State = are.1.0 in
    let later : List Answer = are.1.1.0 in
    let step : IsStep st soft m.0 m.1 first mid = are.1.1.1.0 in
    let both = step_proper base st mid soft ds m.0 m.1 first is done.proper done.after step in
    let rest : IsGood base (ds ++ option_to_list first.deed) later new =
    all_good base is ms mid new first.soft behind (ds ++ option_to_list first.deed) later (record { proper = both.0; after = both.1 }) are.1.1.1.1.0 in
    subst (λ l. IsGood base ds l new) (sym are.1.1.1.1.1)
    (one_good base st mid new ds m.0 m.1 soft first.soft first.deed first.sends later is done step rest)

pub true_of_all : (base st new : State) (soft behind : Soft) (ms : List (ℕ × Message)) (ds : List Deed) (answers : List Answer)
    → IsState base → AreDone base ds st → AreAnswered st soft ms answers new behind → IsTrueOf base ds answers new
true_of_all base st new soft behind ms ds answers is done are = (all_good base is ms st new soft behind ds answers done are).is_true

-- What is reported of messages that were served is the receipts of their answers.
pub told_of_served : (st new : State) (soft behind : Soft) (ms : List (ℕ × Message)) (served : Served) (told : List (Option Receipt))
    → told ≡ told_by served.counts.items served.deeds.items served.sends.items
    → IsState st → (has : IsServed st soft ms served new behind) → told ≡ map receipt_of has.answers
told_of_served st new soft behind ms served told told_is is has =
    let good : IsGood st [] has.answers new = all_good st is ms st new soft behind [] has.answers (none_done st is) has.answered in
    let tells = has.tells in
    told_is
    ∙ (ap (λ l. told_by l served.deeds.items served.sends.items) tells.counts
    ∙ (ap (λ l. told_by (map counts_of has.answers) l served.sends.items) tells.deeds
    ∙ (ap (λ l. told_by (map counts_of has.answers) (deeds_of has.answers) l) tells.sends ∙ good.told)))

pub has_told : (st new : State) (soft behind : Soft) (ms : List (ℕ × Message)) (served : Served) (told : List (Option Receipt))
    → told ≡ told_by served.counts.items served.deeds.items served.sends.items
    → IsState st → IsServed st soft ms served new behind → HasTold st soft ms told served.sends.items new behind
has_told st new soft behind ms served told told_is is has = record {
  answers = has.answers;
  answered = has.answered;
  told_is = told_of_served st new soft behind ms served told told_is is has;
  sends_is = has.tells.sends;
}

-- One more after true receipts.
pub more_true : (st : State) (ds : List Deed) (rs qs : List Receipt) → AreTrue st ds rs → AreTrue st (ds ++ deeds_in rs) qs → AreTrue st ds (rs ++ qs)
more_true st ds [] qs first later = subst (λ l. AreTrue st l qs) (append-nil ds) later
more_true st ds (r ∷ rs) qs first later =
    (first.0, more_true st (ds ++ r.deed ∷ []) rs qs first.1 (subst (λ l. AreTrue st l qs) (sym (append_assoc ds (r.deed ∷ []) (deeds_in rs))) later))

-- ---- how many

-- There is one report for each count.
pub told_each : (ss : List StepCounts) (ds : List Deed) (sends : List (ℕ × Reply)) → length (told_by ss ds sends) ≡ length ss
told_each [] ds sends = refl
told_each (s ∷ ss) ds sends =
    let rest = told_each ss (cond s.has_deed (drop 1 ds) ds) (drop s.sends sends) in
    omega (arith, rest)

answered_each : (ms : List (ℕ × Message)) (st new : State) (soft behind : Soft) (answers : List Answer)
    → AreAnswered st soft ms answers new behind → length answers ≡ length ms
answered_each [] st new soft behind answers are = ap length are.0
answered_each (m ∷ ms) st new soft behind answers are =
    let rest = answered_each ms are.1.0 new are.0.soft behind are.1.1.0 are.1.1.1.1.0 in
    let same : length answers ≡ length (are.0 ∷ are.1.1.0) = ap length are.1.1.1.1.1 in
    omega (arith, same, rest)

-- There is one report for each message.
pub told_once : (st new : State) (soft behind : Soft) (ms : List (ℕ × Message)) (told : List (Option Receipt)) (sends : List (ℕ × Reply))
    → HasTold st soft ms told sends new behind → length told ≡ length ms
told_once st new soft behind ms told sends has =
    ap length has.told_is ∙ (length-map has.answers receipt_of ∙ answered_each ms st new soft behind has.answers has.answered)

-- At the end of the counts nothing is left to report.
pub told_whole : (told : List (Option Receipt)) (ss : List StepCounts) (n : ℕ) (ds : List Deed) (sends : List (ℕ × Reply)) (all : List (Option Receipt))
    → length ss ≤ n → told ++ told_by (drop n ss) ds sends ≡ all → told ≡ all
told_whole told ss n ds sends all past is = sym (append-nil told) ∙ (ap (λ l. told ++ told_by l ds sends) (sym (drop_all n ss past)) ∙ is)
