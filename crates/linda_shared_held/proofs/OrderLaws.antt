-- What is always so stays so.
use Rattle.std.proofs.Common.{◌≡◌, ℕ, ◌+◌, Bool, true, false, true≢false, List, [], ◌++◌, map, length, Option, refl}
use Rattle.std.proofs.Common.{sym, ap, ◌∙◌, subst, append-nil, length-append, arith}
use Rattle.std.proofs.lemmas.List.{map-append}
use Rattle.linda_wire.specs.declared.message.Message.{Message}
use Rattle.linda_wire.specs.declared.reply.Reply.{Reply}
use Rattle.linda_store_state.specs.State.{State, IsState}
use Rattle.linda_store_state.specs.Proper.{AreDone}
use Rattle.linda_store_state.proofs.ProperLaws.{none_done, proper_state}
use Rattle.linda_store_step.specs.Soft.{Soft}
use Rattle.linda_store_step.specs.declared.served.Served.{Served}
use Rattle.linda_store_step.specs.Served.{deeds_of, IsServed}
use Rattle.linda_shared_accounts.specs.declared.receipt.Receipt.{Receipt}
use Rattle.linda_shared_accounts.specs.Receipts.{deeds_in, AreTrue}
use Rattle.linda_shared_accounts.specs.Telling.{receipt_of, receipts_in, told_by, HasTold}
use Rattle.linda_shared_accounts.proofs.TellingLaws.{true_of_all, told_of_served, more_true}
use Rattle.linda_store_step.specs.Store.{Store}
use Rattle.linda_shared_held.specs.Order.{known, IsInOrder}

-- At the start.
pub first_order : (st : State) → IsState st → (is_down : Bool) → IsInOrder st st [] 0 is_down st
first_order st is is_down = record {
  ranges = is;
  earlier = [];
  to_base = none_done st is;
  untold = [];
  to_state = none_done st is;
  none_untold = λ _. refl;
  replies = tt;
  counted = refl;
}

-- The base is in its ranges.
pub base_is : (opening base : State) (rs : List Receipt) (count : ℕ) (is_down : Bool) (st : State) → IsInOrder opening base rs count is_down st → IsState base
base_is opening base rs count is_down st so = proper_state opening base so.earlier so.ranges so.to_base.proper so.to_base.after

-- While the server is up the receipts lead to its state.
pub told_all : (opening base : State) (rs : List Receipt) (count : ℕ) (st : State) → IsInOrder opening base rs count false st → AreDone base (deeds_in rs) st
told_all opening base rs count st so =
    subst (λ l. AreDone base l st) (ap (λ l. deeds_in rs ++ l) (so.none_untold refl) ∙ append-nil (deeds_in rs)) so.to_state

-- The state is in its ranges.
pub state_is : (opening base : State) (rs : List Receipt) (count : ℕ) (st : State) → IsInOrder opening base rs count false st → IsState st
state_is opening base rs count st so =
    let told = told_all opening base rs count st so in
    proper_state base st (deeds_in rs) (base_is opening base rs count false st so) told.proper told.after

-- Messages were answered, and what they led to is reported.
pub told_more : (opening base : State) (rs : List Receipt) (count : ℕ) (st : State) (soft : Soft)
    (ms : List (ℕ × Message)) (told : List (Option Receipt)) (sends : List (ℕ × Reply)) (new : State) (then : Soft)
    → IsInOrder opening base rs count false st → HasTold st soft ms told sends new then
    → IsInOrder opening base (rs ++ receipts_in told) (count + length (receipts_in told)) false new
told_more opening base rs count st soft ms told sends new then so has =
    let is = base_is opening base rs count false st so in
    let good = true_of_all base st new soft then ms (deeds_in rs) has.answers is (told_all opening base rs count st so) has.answered in
    let same : receipts_in told ≡ receipts_in (map receipt_of has.answers) = ap receipts_in has.told_is in
    let deeds : deeds_in (rs ++ receipts_in told) ≡ deeds_in rs ++ deeds_of has.answers =
    map-append (λ (r : Receipt). r.deed) rs (receipts_in told) ∙ ap (λ l. deeds_in rs ++ l) (ap deeds_in same ∙ good.deeds) in
    let counted = so.counted in
    let long = length-append rs (receipts_in told) in
    record {
      ranges = so.ranges;
      earlier = so.earlier;
      to_base = so.to_base;
      untold = [];
      to_state = subst (λ l. AreDone base l new) (sym (append-nil (deeds_in (rs ++ receipts_in told)) ∙ deeds)) good.done;
      none_untold = λ _. refl;
      replies = more_true base [] rs (receipts_in told) so.replies (subst (AreTrue base (deeds_in rs)) (sym same) good.replies);
      counted = omega (arith, counted, long);
    }

-- Messages were answered, and nothing is reported: the server is down.
pub told_nobody : (opening base : State) (rs : List Receipt) (count : ℕ) (st : State) (soft : Soft)
    (ms : List (ℕ × Message)) (served : Served) (new : State) (then : Soft)
    → IsInOrder opening base rs count false st → IsServed st soft ms served new then
    → IsInOrder opening base rs count true new
told_nobody opening base rs count st soft ms served new then so has =
    let is = base_is opening base rs count false st so in
    let good = true_of_all base st new soft then ms (deeds_in rs) has.answers is (told_all opening base rs count st so) has.answered in
    record {
      ranges = so.ranges;
      earlier = so.earlier;
      to_base = so.to_base;
      untold = deeds_of has.answers;
      to_state = good.done;
      none_untold = λ up. absurd (true≢false up);
      replies = so.replies;
      counted = so.counted;
    }

-- The server did nothing, whether it went down or not.
pub stays_so : (opening base : State) (rs : List Receipt) (count : ℕ) (was_down is_down : Bool) (st new : State)
    → new ≡ st → (is_down ≡ false → was_down ≡ false)
    → IsInOrder opening base rs count was_down st → IsInOrder opening base rs count is_down new
stays_so opening base rs count was_down is_down st new same up so = record {
  ranges = so.ranges;
  earlier = so.earlier;
  to_base = so.to_base;
  untold = so.untold;
  to_state = subst (AreDone base (deeds_in rs ++ so.untold)) (sym same) so.to_state;
  none_untold = λ e. so.none_untold (up e);
  replies = so.replies;
  counted = so.counted;
}

-- The deeds that were done are those that are reported.
pub deeds_told : (st : State) (soft : Soft) (ms : List (ℕ × Message)) (served : Served) (new : State) (then : Soft) (told : List (Option Receipt))
    → IsState st → IsServed st soft ms served new then
    → told ≡ told_by served.counts.items served.deeds.items served.sends.items → served.deeds.items ≡ deeds_in (receipts_in told)
deeds_told st soft ms served new then told is has told_is =
    let good = true_of_all st st new soft then ms [] has.answers is (none_done st is) has.answered in
    let same = told_of_served st new soft then ms served told told_is is has in
    has.tells.deeds ∙ (sym good.deeds ∙ sym (ap (λ l. deeds_in (receipts_in l)) same))

-- It begins.
pub begins : (opening base : State) (rs : List Receipt) (is_down : Bool) (before : State) (store : Store)
    → is_down ≡ false → opening ≡ store.state → base ≡ store.state → rs ≡ [] → IsState store.state
    → IsInOrder opening base rs 0 is_down (known before store is_down)
begins opening base rs true before store is opening_is base_is none st_is = absurd (true≢false is)
begins opening base rs false before store is opening_is base_is none st_is =
    subst (λ s. IsInOrder s base rs 0 false store.state) (sym opening_is)
    (subst (λ s. IsInOrder store.state s rs 0 false store.state) (sym base_is)
    (subst (λ l. IsInOrder store.state store.state l 0 false store.state) (sym none) (first_order store.state st_is false)))
