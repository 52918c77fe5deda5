-- What was sent of a deed is kept while more is done, and is sent again when its number comes again.
use Rattle.std.proofs.Common.{◌≡◌, ℕ, ◌<◌, ◌≤◌, ◌+◌, Bool, true, false, inl, inr, List, [], ◌∷◌, ◌++◌, option_to_list}
use Rattle.std.proofs.Common.{option_map, Option, Some, None, IfSome, IsSome, All, refl, sym, ap, ◌∙◌, subst}
use Rattle.std.proofs.Common.{append_assoc, append-nil, arith}
use Rattle.std.proofs.lemmas.Bool.{cases_eq, true≢false}
use Rattle.linda_tuple.specs.Tuple.{Tuple}
use Rattle.std.proofs.lemmas.Option.{none-some, same_Some}
use Rattle.std.proofs.lemmas.List.Elements.{All-weaker}
use Rattle.std.specs.FinMap.{get}
use Rattle.linda_map_laws.proofs.MapLaws.{get_same, get_other}
use Rattle.linda_wire.specs.declared.limits.TheConstants.{NUMBER_LIMIT}
use Rattle.linda_wire.specs.declared.message.Message.{Message}
use Rattle.linda_wire.specs.declared.message.Message.TheVariants.{Hello, Out, Ask, Accept, Cancel, Leave}
use Rattle.linda_wire.specs.declared.reply.Reply.{Reply}
use Rattle.linda_book.specs.declared.class.Class.{Class}
use Rattle.linda_book.specs.declared.class.Class.TheVariants.{Kept}
use Rattle.linda_book.specs.declared.kept_reply.KeptReply.{KeptReply}
use Rattle.linda_book.specs.declared.kept_reply.KeptReply.TheVariants as kept
use Rattle.linda_book.specs.Entries.{Entry, left_in, number_in}
use Rattle.linda_book.specs.Classes.{class_of}
use Rattle.linda_store_state.specs.declared.deed.Deed.{Deed}
use Rattle.linda_store_state.specs.Deed.{client_of, number_of, is_taken}
use Rattle.linda_store_state.specs.State.{State, IsState, empty_state}
use Rattle.linda_store_state.specs.After.{IsAfter, reply_of_deed}
use Rattle.linda_store_state.specs.Proper.{IsAllowed, IsProper, AreDone}
use Rattle.linda_store_state.proofs.StateLaws.{empty_is_state}
use Rattle.linda_store_state.proofs.AfterLaws.{none_after, one_after, old_id}
use Rattle.linda_store_state.proofs.DoneLaws.{done, done_after}
use Rattle.linda_store_state.proofs.ProperLaws.{front_proper, reached, proper_state, more_done}
use Rattle.linda_store_state.proofs.ReplyLaws.{reply_behind, kept_behind}
use Rattle.linda_store_step.specs.Soft.{Soft}
use Rattle.linda_store_step.specs.Answer.{Answer, only_reply, reply_of_kept, last_number, standing_of, reply_by}
use Rattle.linda_store_step.specs.Answer.{has_left, out_without_deed, accept_without_deed, leave_without_deed, on_out}
use Rattle.linda_store_step.specs.Answer.{on_accept, on_leave, IsAnswer, IsStep}
use Rattle.linda_store_step.specs.Judge.{to_put, to_take, to_leave, judge_class}
use Rattle.linda_store_step.specs.History.{says, History, Happens, first_then, nothing_yet, history_of}
use Rattle.linda_store_step.specs.Reported.{number_of_message}
use Rattle.linda_store_step.specs.Replies.{reports_deed, ReportsOne}
use Rattle.linda_store_step.specs.Covered.{number_in_reply, IsCovered}
use Rattle.linda_store.specs.Sound.{AreBacked}

-- ---- a number that comes again

last_class : (n : ℕ) (left : Bool) → 1 ≤ n → class_of n left n ≡ Kept
last_class n left low = grind (arith)

module _ (st : State) (c n : ℕ) (reply : KeptReply) (is : IsState st) (there : get st.book c ≡ Some (n, reply)) where
  low : 1 ≤ n
  low = (subst (λ o. IfSome o (λ (e : Entry). (1 ≤ e.0) × (e.0 < NUMBER_LIMIT))) there (is.numbers c)).0

  class : class_of (last_number st c) (has_left st c) n ≡ Kept
  class = ap (λ o. class_of (number_in o) (left_in o) n) there ∙ last_class n (left_in (Some (n, reply))) low

  -- There is a reply without a deed: the one that is kept.
  kept_reply : option_map (λ (e : Entry). reply_of_kept n e.1) (get st.book c) ≡ Some (reply_of_kept n reply)
  kept_reply = ap (option_map (λ (e : Entry). reply_of_kept n e.1)) there

  of_out : out_without_deed st c n ≡ Some (reply_of_kept n reply)
  of_out = ap (λ (k : Class). reply_by st c n (judge_class (to_put n) (standing_of st c) k)) class ∙ kept_reply

  of_accept : accept_without_deed st c n ≡ Some (reply_of_kept n reply)
  of_accept = ap (λ (k : Class). reply_by st c n (judge_class (to_take n) (standing_of st c) k)) class ∙ kept_reply

  of_leave : leave_without_deed st c n ≡ Some (reply_of_kept n reply)
  of_leave = ap (λ (k : Class). reply_by st c n (judge_class (to_leave n) (standing_of st c) k)) class ∙ kept_reply

  answer : (soft : Soft) (m : Message) (answered : Answer) → number_of_message m ≡ Some n
      → IsAnswer st soft c m answered → answered ≡ only_reply c (reply_of_kept n reply) soft
  answer soft (Hello version client fresh) answered bears told = absurd (none-some n bears)
  answer soft (Ask ticket remove template) answered bears told = absurd (none-some n bears)
  answer soft (Cancel ticket) answered bears told = absurd (none-some n bears)
  answer soft (Out k tuple) answered bears told =
      subst (λ j. answered ≡ on_out st c j tuple (out_without_deed st c j) soft) (same_Some k n bears) told
      ∙ ap (λ r. on_out st c n tuple r soft) of_out
  answer soft (Accept k ticket id) answered bears told =
      subst (λ j. answered ≡ on_accept st c j ticket id (accept_without_deed st c j) soft) (same_Some k n bears) told
      ∙ ap (λ r. on_accept st c n ticket id r soft) of_accept
  answer soft (Leave k) answered bears told =
      subst (λ j. answered ≡ on_leave st c j (leave_without_deed st c j) soft) (same_Some k n bears) told
      ∙ ap (λ r. on_leave st c n r soft) of_leave

  pub answered_as_kept : (soft : Soft) (m : Message) (all : History) → number_of_message m ≡ Some n → Happens st soft (says c m ∷ []) all
      → all ≡ history_of st soft [] ((c, reply_of_kept n reply) ∷ [])
  answered_as_kept soft m all bears happens =
      let first : Answer = happens.0 in
      let mid : State = happens.1.0 in
      let later : History = happens.1.1.0 in
      let step : IsStep st soft c m first mid = happens.1.1.1.0 in
      let none : later ≡ nothing_yet mid first.soft = happens.1.1.1.1.0 in
      let told : first ≡ only_reply c (reply_of_kept n reply) soft = answer soft m first bears step.answer in
      let same : mid ≡ st = one_after st [] mid st (subst (λ (a : Answer). IsAfter st (option_to_list a.deed) mid) told step.state_is) (none_after st is) in
      happens.1.1.1.1.1 ∙ ap (first_then first) none ∙ (λ i. first_then (told i) (nothing_yet (same i) (told i).soft))

-- ---- a reply that was sent, while more is done

kept_number : (n : ℕ) (reply : KeptReply) → number_in_reply (reply_of_kept n reply) ≡ n
kept_number n (kept.Stored id) = refl
kept_number n (kept.Taken id tuple) = refl
kept_number n kept.Gone = refl
kept_number n kept.Left = refl

-- One deed more: the client goes on by it, or its entry is as it was.
one_covered : (mid : State) (d : Deed) (send : ℕ × Reply) → IsAllowed mid d → IsCovered mid send → IsCovered (done mid d) send
one_covered mid d send allowed covered reports =
    elim (cases_eq send.0 (client_of d)) [
      | inl own ↦
          let last : last_number (done mid d) (client_of d) ≡ number_of d =
          ap number_in (get_same mid.book (client_of d) (number_of d, reply_of_deed mid [] d)) in
          let number = allowed.number in
          let rises : last_number (done mid d) send.0 ≡ last_number mid send.0 + 1 =
          subst (λ c. last_number (done mid d) c ≡ last_number mid c + 1) (sym own) (last ∙ number) in
          elim (covered reports) [
            | inl low ↦ inl (omega (arith, low, rises))
            | inr keeps ↦
                let n : number_in_reply send.1 ≡ keeps.entry.0 = ap number_in_reply keeps.reply ∙ kept_number keeps.entry.0 keeps.entry.1 in
                let kept_at : last_number mid send.0 ≡ keeps.entry.0 = ap number_in keeps.kept in
                inl (omega (arith, n, kept_at, rises))
          ]
      | inr apart ↦
          let same = get_other mid.book (client_of d) (number_of d, reply_of_deed mid [] d) send.0 apart in
          elim (covered reports) [
            | inl low ↦ inl (subst (λ e. number_in_reply send.1 < number_in e) (sym same) low)
            | inr keeps ↦ inr (record { entry = keeps.entry; kept = same ∙ keeps.kept; reply = keeps.reply })
          ]
    ]

module _ (ds : List Deed) (st : State) (all : AreDone empty_state ds st) where
  -- So are many deeds more.
  walk : (send : ℕ × Reply) (later before : List Deed) (mid : State) → ds ≡ before ++ later
      → AreDone empty_state before mid → IsCovered mid send → IsCovered st send
  walk send [] before mid parts at_mid covered =
      let whole : ds ≡ before = parts ∙ append-nil before in
      subst (λ s. IsCovered s send) (one_after empty_state ds mid st (subst (λ l. IsAfter empty_state l mid) (sym whole) at_mid.after) all.after) covered
  walk send (d ∷ later) before mid parts at_mid covered =
      let is_mid = proper_state empty_state mid before empty_is_state at_mid.proper at_mid.after in
      let allowed = all.proper before d later mid parts at_mid.after in
      let more = more_done empty_state mid (done mid d) before d empty_is_state at_mid allowed (done_after mid d is_mid) in
      walk send later (before ++ d ∷ []) (done mid d) (parts ∙ sym (append_assoc before (d ∷ []) later)) more (one_covered mid d send allowed covered)

  told_covered : (send : ℕ × Reply) → ReportsOne ds send.0 send.1 → IsCovered st send
  told_covered send told =
      let proper = front_proper empty_state told.before (told.deed ∷ told.later) (subst (IsProper empty_state) told.parts all.proper) in
      let there = reached empty_state told.before empty_is_state proper in
      let allowed = all.proper told.before told.deed told.later there.new told.parts there.after in
      let next = done_after there.new told.deed there.state in
      let more = more_done empty_state there.new (done there.new told.deed) told.before told.deed empty_is_state
      (record { proper = proper; after = there.after }) allowed next in
      let own = subst (λ c. get (done there.new told.deed).book c ≡ Some (number_of told.deed, reply_of_deed there.new [] told.deed)) told.client
      (kept_behind there.new (done there.new told.deed) told.deed next) in
      let behind = reply_behind empty_state there.new told.before told.deed there.state there.after in
      walk send told.later (told.before ++ told.deed ∷ []) (done there.new told.deed)
      (told.parts ∙ sym (append_assoc told.before (told.deed ∷ []) told.later)) more
      (λ reports. inr (record {
        entry = (number_of told.deed, reply_of_deed empty_state told.before told.deed);
        kept = own ∙ ap (λ r. Some (number_of told.deed, r)) behind;
        reply = told.reply;
      }))

  -- What was sent of these deeds is kept, each reply until its client has done a later one.
  pub all_covered : (sends : List (ℕ × Reply)) → AreBacked ds sends → All (IsCovered st) sends
  all_covered sends backed =
      All-weaker (λ (send : ℕ × Reply). reports_deed send.1 ≡ true → ReportsOne ds send.0 send.1)
      (IsCovered st) (λ send told reports. told_covered send (told reports) reports) sends backed

-- ---- a tuple that nobody takes

below : (st : State) (id : ℕ) → IsState st → IsSome (get st.bag id) → id < st.next
below st id is there = by (get st.bag id) there (is.ids id)
  where
    by : (o : Option Tuple) → IsSome o → IfSome o (λ _. (1 ≤ id) × (id < st.next)) → id < st.next
    by None some so = absurd (true≢false (sym some))
    by (Some x) some so = so.1

pub still_there : (st new : State) (ds : List Deed) (id : ℕ) → IsState st → IsAfter st ds new
    → is_taken id ds ≡ false → IsSome (get st.bag id) → IsSome (get new.bag id) × (get new.bag id ≡ get st.bag id)
still_there st new ds id is after free there =
    let same = after.bag id ∙ old_id st ds id free (below st id is there) in
    (subst IsSome (sym same) there, same)
