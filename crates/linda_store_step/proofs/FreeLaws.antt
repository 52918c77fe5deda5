-- Which tuples are free after a step: those that were before, those that are new, and the one that is released.
use Rattle.std.proofs.Common.{◌≡◌, ℕ, ◌+◌, ◌<◌, inl, inr, true, false, ◌||◌, List, [], ◌∷◌, length, Option, None, Some}
use Rattle.std.proofs.Common.{is_some, option_to_list, Result, Ok, Err, OnOk, IfOk, refl, sym, ap, subst, ◌∙◌}
use Rattle.std.proofs.Common.{true≢false, eq-eqb, arith}
use Rattle.std.proofs.lemmas.Bool.{cases_eq, cases_lt}
use Rattle.std.proofs.lemmas.Option.{none-some}
use Rattle.std.specs.FinMap.{get, insert, remove}
use Rattle.linda_tuple.specs.Tuple.{Tuple}
use Rattle.linda_bag.specs.declared.search_hints.SearchHints.{SearchHints}
use Rattle.linda_bag.specs.SearchHints.{AreRight}
use Rattle.linda_map_laws.proofs.MapLaws.{get_same, get_other, get_removed_other}
use Rattle.linda_bag.proofs.ColumnLaws.{stay_right}
use Rattle.linda_hold.specs.declared.request.Request.{Request}
use Rattle.linda_hold.specs.Waits.{Wait, longest, without_readers}
use Rattle.linda_hold.specs.Holds.{HeldFor}
use Rattle.linda_wire.specs.declared.reply.Reply.{Reply}
use Rattle.linda_store_state.specs.declared.deed.Deed.{Deed}
use Rattle.linda_store_state.specs.declared.deed.Deed.TheVariants as deeds
use Rattle.linda_store_state.specs.Deed.{is_taken, outs_of}
use Rattle.linda_store_state.specs.State.{State, IsState}
use Rattle.linda_store_state.specs.After.{IsAfter}
use Rattle.linda_store_state.proofs.AfterLaws.{old_id, taken_id, one_after}
use Rattle.linda_store_state.proofs.DoneLaws.{done, done_after}
use Rattle.linda_store_step.specs.Soft.{Soft, Bagged}
use Rattle.linda_store_step.specs.Looking.{is_held}
use Rattle.linda_store_step.specs.Dispatch.{dispatch, held_for}
use Rattle.linda_store_step.specs.Answer.{Answer, take_or_pass}

-- A dispatch changes only whether that tuple is held.
pub dispatched_elsewhere : (id : ℕ) (row : Tuple) (soft : Soft) (k : ℕ) → (k ≡ id → ⊥) → is_held (dispatch id row soft).soft.holds k ≡ is_held soft.holds k
dispatched_elsewhere id row soft k other = by (longest row soft.waits)
  where
    by : (o : Option Wait) → is_held (held_for id o (record { holds = soft.holds; waits = without_readers row soft.waits })).holds k ≡ is_held soft.holds k
    by None = refl
    by (Some w) = ap is_some (get_other soft.holds id w.0 k other)

-- So after a tuple was released, each other tuple that is free was free before.
pub released_elsewhere : (id : ℕ) (row : Tuple) (soft : Soft) (holds : HeldFor)
    → holds ≡ (dispatch id row (record { holds = remove soft.holds id; waits = soft.waits })).soft.holds
    → (k : ℕ) → (k ≡ id → ⊥) → is_held holds k ≡ false → is_held soft.holds k ≡ false
released_elsewhere id row soft holds is k other free =
    sym (dispatched_elsewhere id row (record { holds = remove soft.holds id; waits = soft.waits }) k other
    ∙ ap is_some (get_removed_other soft.holds id k other))
    ∙ ap (λ h. is_held h k) (sym is) ∙ free

-- A tuple that a bag has below the next id it had before the deeds.
below_kept : (st new : State) (ds : List Deed) → IsAfter st ds new → (k : ℕ) (row : Tuple) → k < st.next → get new.bag k ≡ Some row → get st.bag k ≡ Some row
below_kept st new ds after k row below stored =
    elim (is_taken k ds) as (λ b. is_taken k ds ≡ b → get st.bag k ≡ Some row) [
      | true ↦ λ is. absurd (none-some row (sym (after.bag k ∙ taken_id st ds k is) ∙ stored))
      | false ↦ λ is. sym (old_id st ds k is below) ∙ sym (after.bag k) ∙ stored
    ] refl

-- Right hints stay right after deeds, if each tuple below the old next id that is free was free before.
pub done_right : (st new : State) (ds : List Deed) (holds now : HeldFor) (hints : SearchHints) → IsAfter st ds new
    → ((k : ℕ) (row : Tuple) → k < st.next → get new.bag k ≡ Some row → is_held now k ≡ false → is_held holds k ≡ false)
    → AreRight st.bag (is_held holds) st.next hints → AreRight new.bag (is_held now) new.next hints
done_right st new ds holds now hints after free rights =
    let more : new.next ≡ st.next + length (outs_of ds) = after.next in
    stay_right st.bag new.bag (is_held holds) (is_held now) st.next new.next hints (omega arith)
    (λ k row stored. elim (cases_lt k st.next) [
      | inl below ↦ inr (below_kept st new ds after k row below stored)
      | inr above ↦ inl above
    ])
    (λ k row stored is. elim (cases_lt k st.next) [
      | inl below ↦ inr (below_kept st new ds after k row below stored, free k row below stored is)
      | inr above ↦ inl above
    ])
    rights

-- A tuple is put, and dispatched.
pub put_right : (st new : State) (c n : ℕ) (tuple : Tuple) (soft now : Soft) (hints : SearchHints) → IsAfter st (deeds.Out c n tuple ∷ []) new
    → now ≡ (dispatch st.next tuple soft).soft → AreRight st.bag (is_held soft.holds) st.next hints → AreRight new.bag (is_held now.holds) new.next hints
put_right st new c n tuple soft now hints after is rights =
    done_right st new (deeds.Out c n tuple ∷ []) soft.holds now.holds hints after
    (λ k row below stored free. sym (dispatched_elsewhere st.next tuple soft k (λ same. omega arith)) ∙ ap (λ (s : Soft). is_held s.holds k) (sym is) ∙ free)
    rights

-- An offer is accepted, or is gone.
pub accepted_right : (st new : State) (c n id : ℕ) (held : Option Tuple) (deed : Option Deed) (sends : List (ℕ × Reply)) (soft now : Soft)
    (hints : SearchHints) → (let a : Answer = record { deed = deed; sends = sends; soft = now } in a) ≡ take_or_pass c n id held soft
    → IsAfter st (option_to_list deed) new → AreRight st.bag (is_held soft.holds) st.next hints → AreRight new.bag (is_held now.holds) new.next hints
accepted_right st new c n id None deed sends soft now hints is after rights =
    done_right st new (option_to_list deed) soft.holds now.holds hints after
    (λ k row below stored free. ap (λ (a : Answer). is_held a.soft.holds k) (sym is) ∙ free)
    rights
accepted_right st new c n id (Some taken) deed sends soft now hints is after rights =
    let done : IsAfter st (deeds.Take c n id ∷ []) new =
    subst (λ (o : Option Deed). IsAfter st (option_to_list o) new) (ap (λ (a : Answer). a.deed) is) after in
    done_right st new (deeds.Take c n id ∷ []) soft.holds now.holds hints done
    (λ k row below stored free. elim (cases_eq k id) [
      | inl same ↦ absurd (none-some row (sym (done.bag k ∙ taken_id st (deeds.Take c n id ∷ []) k (ap (λ b. b || false) (eq-eqb id k (sym same)))) ∙ stored))
      | inr other ↦ sym (ap is_some (get_removed_other soft.holds id k other)) ∙ ap (λ (a : Answer). is_held a.soft.holds k) (sym is) ∙ free
    ])
    rights

-- A Leave changes neither the bag nor the next id.
pub left_right : (st new : State) (c n : ℕ) (now : Soft) (hints : SearchHints) → IsState st → IsAfter st (deeds.Leave c n ∷ []) new
    → AreRight st.bag (is_held now.holds) st.next hints → AreRight new.bag (is_held now.holds) new.next hints
left_right st new c n now hints is after rights =
    subst (λ (s : State). AreRight s.bag (is_held now.holds) s.next hints)
    (one_after st (deeds.Leave c n ∷ []) (done st (deeds.Leave c n)) new (done_after st (deeds.Leave c n) is) after) rights

-- Hints that were right stay so if one more tuple is held.
pub holding_right : (bag : Bagged) (holds now : HeldFor) (id : ℕ) (request : Request) (next : ℕ) (hints : SearchHints)
    → now ≡ insert holds id request → AreRight bag (is_held holds) next hints → AreRight bag (is_held now) next hints
holding_right bag holds now id request next hints is rights =
    stay_right bag bag (is_held holds) (is_held now) next next hints (omega arith)
    (λ k row stored. inr stored)
    (λ k row stored free. elim (cases_eq k id) [
      | inl same ↦ absurd (true≢false (sym (ap is_some (get_same holds id request))
          ∙ ap (λ i. is_held (insert holds id request) i) (sym same) ∙ ap (λ h. is_held h k) (sym is) ∙ free))
      | inr other ↦ inr (stored, sym (ap is_some (get_other holds id request k other)) ∙ ap (λ h. is_held h k) (sym is) ∙ free)
    ])
    rights

pub on_ok_both : {A E P Q R : Type 0} (r : Result A E) → OnOk r P → OnOk r Q → (P → Q → R) → OnOk r R
on_ok_both (Ok a) p q then = then p q
on_ok_both (Err e) p q then = tt

pub if_ok_both : {A E R : Type 0} {P Q : A → Type 0} (r : Result A E) → IfOk r P → IfOk r Q → ((a : A) → P a → Q a → R) → OnOk r R
if_ok_both (Ok a) p q then = then a p q
if_ok_both (Err e) p q then = tt

pub if_ok_two : {A E : Type 0} {P Q R : A → Type 0} (r : Result A E) → IfOk r P → IfOk r Q → ((a : A) → P a → Q a → R a) → IfOk r R
if_ok_two (Ok a) p q then = then a p q
if_ok_two (Err e) p q then = tt

pub on_ok_any : {A E P : Type 0} (r : Result A E) → P → OnOk r P
on_ok_any (Ok a) p = p
on_ok_any (Err e) p = tt
