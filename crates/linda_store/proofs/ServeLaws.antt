-- What comes to a server leaves it sound, and what it sends reports only its deeds.
use Rattle.std.proofs.Common.{◌≡◌, ℕ, Bool, true, false, true≢false, List, [], ◌∷◌, ◌++◌, option_to_list, All, refl}
use Rattle.std.proofs.Common.{sym, ap, ◌∙◌, subst, append-nil, append_assoc}
use Rattle.std.proofs.lemmas.List.Elements.{All-nil, All-append, All-weaker}
use Rattle.linda_wire.specs.declared.reply.Reply.{Reply}
use Rattle.linda_store_state.specs.declared.deed.Deed.{Deed}
use Rattle.linda_store_state.specs.State.{State, empty_state}
use Rattle.linda_store_step.specs.Soft.{Soft}
use Rattle.linda_store_step.specs.Dispatch.{on_close}
use Rattle.linda_store_state.specs.After.{IsAfter}
use Rattle.linda_store_state.specs.Proper.{IsProper}
use Rattle.linda_store_step.specs.Answer.{Answer}
use Rattle.linda_store_step.specs.History.{Coming, says, hangs_up, Comes, History, Happens}
use Rattle.linda_store_step.specs.Store.{IsOrderly}
use Rattle.linda_store_state.proofs.StateLaws.{empty_is_state}
use Rattle.linda_store_state.proofs.AfterLaws.{joined_after}
use Rattle.linda_store_state.proofs.ProperLaws.{front_proper, takes_below, proper_state}
use Rattle.linda_store_step.proofs.AnswerLaws.{step_proper}
use Rattle.linda_store_step.proofs.OrderLaws.{step_orderly, close_orderly, no_asks_orderly}
use Rattle.linda_store_step.specs.Replies.{reports_deed, ReportsOne, KeepsReply}
use Rattle.std.specs.Prelude.{Result, Ok, Err}
use Rattle.std.specs.Global.{Vec}
use Rattle.linda_store_step.specs.Course.{IsFront}
use Rattle.linda_store.specs.declared.node.NodeFault.{NodeFault}
use Rattle.linda_store.specs.declared.node.NodeFault.TheVariants as faults
use Rattle.linda_store.specs.Node.{Node, NodeAnswer, Sent, IsFull, IsDown, MayRemain, WentDown, IsOpened, Works, Closes, Snaps, Stops}
use Rattle.linda_store.specs.Sound.{IsSound, AreBacked, added}
use Rattle.linda_store_step.proofs.ReplyLaws.{step_backed, close_backed, book_reports}

-- A reply to a deed still is one after later deeds.
pub reply_later : (ds es : List Deed) (c : ℕ) (r : Reply) → ReportsOne ds c r → ReportsOne (ds ++ es) c r
reply_later ds es c r told = record {
  before = told.before;
  deed = told.deed;
  later = told.later ++ es;
  parts = ap (λ l. l ++ es) told.parts ∙ append_assoc told.before (told.deed ∷ told.later) es;
  client = told.client;
  reply = told.reply;
}

pub backed_later : (ds es : List Deed) (sends : List (ℕ × Reply)) → AreBacked ds sends → AreBacked (ds ++ es) sends
backed_later ds es sends backed =
    All-weaker (λ (s : ℕ × Reply). reports_deed s.1 ≡ true → ReportsOne ds s.0 s.1) (λ (s : ℕ × Reply). reports_deed s.1 ≡ true → ReportsOne (ds ++ es) s.0 s.1)
    (λ s told tells. reply_later ds es s.0 s.1 (told tells)) sends backed

-- After these deeds the server is in this state, in order, and what it sent reports only them.
pub record Stands (ds : List Deed) (now : State) (soft : Soft) (sends : List (ℕ × Reply)) : Type 0 where
  pub proper : IsProper empty_state ds
  pub after : IsAfter empty_state ds now
  pub orderly : IsOrderly now soft
  pub backed : AreBacked ds sends

-- what is kept after deeds is backed by them
kept_backed : (ds : List Deed) (st : State) (sends : List (ℕ × Reply)) → IsAfter empty_state ds st
    → All (λ (s : ℕ × Reply). reports_deed s.1 ≡ true → KeepsReply st s.0 s.1) sends → AreBacked ds sends
kept_backed ds st sends after kept =
    All-weaker (λ (s : ℕ × Reply). reports_deed s.1 ≡ true → KeepsReply st s.0 s.1) (λ (s : ℕ × Reply). reports_deed s.1 ≡ true → ReportsOne ds s.0 s.1)
    (λ s k tells. book_reports ds st s.0 s.1 after (k tells)) sends kept

-- One thing more leaves it so.
came : (mid new : State) (soft : Soft) (x : Coming) (ds : List Deed) (before : List (ℕ × Reply)) (answered : Answer)
    → Stands ds mid soft before → Comes mid soft x answered new
    → Stands (ds ++ option_to_list answered.deed) new answered.soft (before ++ answered.sends)
came mid new soft (says c m) ds before answered stands step =
    let done = step_proper empty_state mid new soft ds c m answered empty_is_state stands.proper stands.after step in
    record {
      proper = done.0;
      after = done.1;
      orderly = step_orderly mid new soft c stands.orderly m answered step;
      backed = All-append (λ (s : ℕ × Reply). reports_deed s.1 ≡ true → ReportsOne (ds ++ option_to_list answered.deed) s.0 s.1) before answered.sends
          (backed_later ds (option_to_list answered.deed) before stands.backed)
          (kept_backed (ds ++ option_to_list answered.deed) new answered.sends done.1 (step_backed mid new soft c m answered stands.orderly.state_is step));
    }
came mid new soft (hangs_up c) ds before answered stands closed =
    subst (λ (s : State). Stands (ds ++ option_to_list answered.deed) s answered.soft (before ++ answered.sends)) (sym closed.1)
    (subst (λ (a : Answer). Stands (ds ++ option_to_list a.deed) mid a.soft (before ++ a.sends)) (sym closed.0)
    (subst (λ l. Stands l mid (on_close mid.bag c soft).soft (before ++ (on_close mid.bag c soft).sends)) (sym (append-nil ds))
    (record {
      proper = stands.proper;
      after = stands.after;
      orderly = close_orderly mid soft c stands.orderly;
      backed = All-append (λ (s : ℕ × Reply). reports_deed s.1 ≡ true → ReportsOne ds s.0 s.1) before (on_close mid.bag c soft).sends stands.backed
          (kept_backed ds mid (on_close mid.bag c soft).sends stands.after (close_backed mid mid.bag c soft));
    })))

-- So do many things.
pub happened : (mid : State) (soft : Soft) (xs : List Coming) (ds : List Deed) (before : List (ℕ × Reply)) (all : History)
    → Stands ds mid soft before → Happens mid soft xs all
    → Stands (ds ++ all.deeds) all.state all.soft (before ++ all.sends)
happened mid soft [] ds before all stands happens =
    subst (λ (a : History). Stands (ds ++ a.deeds) a.state a.soft (before ++ a.sends)) (sym happens)
    (subst (λ l. Stands l mid soft (before ++ [])) (sym (append-nil ds)) (subst (Stands ds mid soft) (sym (append-nil before)) stands))
happened mid soft (x ∷ xs) ds before all stands happens =
    let first : Answer = happens.0 in
    let later : History = happens.1.1.0 in
    subst (λ (a : History). Stands (ds ++ a.deeds) a.state a.soft (before ++ a.sends)) (sym happens.1.1.1.1.1)
    (subst (λ l. Stands l later.state later.soft (before ++ (first.sends ++ later.sends))) (append_assoc ds (option_to_list first.deed) later.deeds)
    (subst (λ l. Stands ((ds ++ option_to_list first.deed) ++ later.deeds) later.state later.soft l) (append_assoc before first.sends later.sends)
    (happened happens.1.0 first.soft xs (ds ++ option_to_list first.deed) (before ++ first.sends) later
    (came mid happens.1.0 soft x ds before first stands happens.1.1.1.0) happens.1.1.1.1.0)))

module _ (ds : List Deed) (old : Node) (sound : IsSound ds old) where
  begins : old.is_down ≡ false → Stands ds old.state old.soft []
  begins up = record {
    proper = sound.proper;
    after = sound.after;
    orderly = sound.orderly up;
    backed =
        All-nil (λ (s : ℕ × Reply). reports_deed s.1 ≡ true → ReportsOne ds s.0 s.1);
  }

  -- What may remain of a call goes on from what was done.
  remains_proper : (xs : List Coming) (es : List Deed) → old.is_down ≡ false → MayRemain old xs es → IsProper empty_state (ds ++ es)
  remains_proper xs es up r =
      let all : Stands (ds ++ r.all.deeds) r.all.state r.all.soft ([] ++ r.all.sends) = happened old.state old.soft r.first ds [] r.all (begins up) r.happens in
      let whole : ds ++ r.all.deeds ≡ (ds ++ es) ++ r.front.0 = ap (λ l. ds ++ l) (sym r.front.1) ∙ sym (append_assoc ds es r.front.0) in
      front_proper empty_state (ds ++ es) r.front.0 (subst (IsProper empty_state) whole all.proper)

  -- a prefix of what would go on goes on
  front_goes_on : (es all : List Deed) → IsFront es all → IsProper empty_state (ds ++ all) → IsProper empty_state (ds ++ es)
  front_goes_on es all front proper =
      let whole : ds ++ all ≡ (ds ++ es) ++ front.0 = ap (λ l. ds ++ l) (sym front.1) ∙ sym (append_assoc ds es front.0) in
      front_proper empty_state (ds ++ es) front.0 (subst (IsProper empty_state) whole proper)

  -- either way, whether it was up or down
  by_down : (A : Type 0) → (old.is_down ≡ false → A) → (old.is_down ≡ true → A) → A
  by_down A up down = by old.is_down refl
    where
      by : (b : Bool) → old.is_down ≡ b → A
      by false e = up e
      by true e = down e

  went_down : (xs : List Coming) (new : Node) → WentDown old xs new → IsSound ds new
  went_down xs new went = record {
    proper = sound.proper;
    after = subst (IsAfter empty_state ds) (sym went.state_same) sound.after;
    orderly = λ up. absurd (true≢false (sym went.is_down ∙ up));
    lost = λ _. by_down (IsProper empty_state (ds ++ new.lost)) (λ up. remains_proper xs new.lost up (went.from_up up))
        (λ down. subst (λ l. IsProper empty_state (ds ++ l)) (sym (ap (λ (n : Node). n.lost) (went.from_down down))) (sound.lost down));
  }

  -- no deeds more
  pub none_more : (es : List Deed) (new : Node) → es ≡ [] → IsSound ds new → IsSound (ds ++ es) new
  none_more es new none is = subst (λ l. IsSound l new) (sym (append-nil ds) ∙ ap (λ l. ds ++ l) (sym none)) is

  -- A call of a node leaves its server sound.
  pub works_sound : (xs : List Coming) (answer : NodeAnswer) (es : List Deed) (new : Node) → Works old xs answer es new → IsSound (ds ++ es) new
  works_sound xs (Sent sends) es new done =
      let all = happened old.state old.soft xs ds [] _ (begins done.was_up) done.happens in
      record { proper = all.proper; after = all.after; orderly = λ _. all.orderly; lost = λ down. absurd (true≢false (sym down ∙ done.is_up)) }
  works_sound xs IsFull es new none = none_more es new none.1 (subst (IsSound ds) (sym none.0.unchanged) sound)
  works_sound xs IsDown es new went = none_more es new went.1 (went_down xs new went.0)

  -- What it sends reports only its deeds.
  pub works_backed : (xs : List Coming) (sends : List (ℕ × Reply)) (es : List Deed) (new : Node) → Works old xs (Sent sends) es new → AreBacked (ds ++ es) sends
  works_backed xs sends es new done = (happened old.state old.soft xs ds [] _ (begins done.was_up) done.happens).backed

  opened : (xs : List Coming) (es : List Deed) (new : Node) → IsOpened old xs es new → IsSound (ds ++ es) new
  opened xs es new is_open =
      let proper : IsProper empty_state (ds ++ es) =
      by_down (IsProper empty_state (ds ++ es)) (λ up. remains_proper xs es up (is_open.from_up up))
      (λ down. front_goes_on es old.lost (is_open.from_down down) (sound.lost down)) in
      let after : IsAfter empty_state (ds ++ es) new.state =
      joined_after empty_state old.state new.state ds es sound.after is_open.state_is (takes_below empty_state ds empty_is_state sound.proper) in
      record {
        proper = proper;
        after = after;
        orderly = λ _. subst (IsOrderly new.state) (sym is_open.soft_is)
            (no_asks_orderly new.state (proper_state empty_state new.state (ds ++ es) empty_is_state proper after));
        lost = λ down. absurd (true≢false (sym down ∙ is_open.is_up));
      }

  -- A stop leaves the server sound.
  pub stops_sound : (xs : List Coming) (answer : Result (Vec Deed) NodeFault) (new : Node) → Stops old xs answer new → IsSound (ds ++ added answer) new
  stops_sound xs (Ok es) new is_open = opened xs es.items new is_open
  stops_sound xs (Err faults.Full) new never = absurd never
  stops_sound xs (Err faults.Down) new went = none_more [] new refl (went_down xs new went)

  -- So does a close, and what it sends reports only its deeds.
  pub closes_sound : (c : ℕ) (answer : NodeAnswer) (new : Node) → Closes old c answer new → IsSound ds new
  closes_sound c (Sent sends) new done = subst (λ l. IsSound l new) (append-nil ds) (works_sound (hangs_up c ∷ []) (Sent sends) [] new done)
  closes_sound c IsFull new never = absurd never
  closes_sound c IsDown new went = went_down (hangs_up c ∷ []) new went

  pub closes_backed : (c : ℕ) (sends : List (ℕ × Reply)) (new : Node) → Closes old c (Sent sends) new → AreBacked ds sends
  closes_backed c sends new done = subst (λ l. AreBacked l sends) (append-nil ds) (works_backed (hangs_up c ∷ []) sends [] new done)

  -- So does a snapshot.
  pub snaps_sound : {A : Type 0} (answer : Result A NodeFault) (new : Node) → Snaps old answer new → IsSound ds new
  snaps_sound (Ok done) new same = subst (IsSound ds) (sym same.1) sound
  snaps_sound (Err faults.Full) new same = subst (IsSound ds) (sym same.1.1) sound
  snaps_sound (Err faults.Down) new went = went_down [] new went
