-- Each move keeps the ranges of holds and waits.
use Rattle.std.proofs.Common.{◌≡◌, ◌≢◌, ℕ, suc, ◌+◌, ◌<◌, ◌≤◌, Bool, true, false, cond, not, ◌==◌, List, [], ◌∷◌, ◌++◌}
use Rattle.std.proofs.Common.{length, Option, Some, None, IsSome, is_some, filter, inl, inr, refl, sym, ap, ◌∙◌, subst}
use Rattle.std.proofs.Common.{true≢false, eq-eqb, ne_eqb, arith, length-append, nat_cmp}
use Rattle.std.proofs.lemmas.Bool.{cases_eq}
use Rattle.std.proofs.lemmas.Option.{none-some}
use Rattle.std.proofs.lemmas.List.{length-map}
use Rattle.std.proofs.lemmas.List.Elements.{filter-append, All-nil}
use Rattle.std.proofs.lemmas.Map.Made.{IsDistinct-keys_filter}
use Rattle.std.specs.List.{IsDistinct, AllByRecursion}
use Rattle.std.specs.Map.{keys_of}
use Rattle.std.specs.FinMap.{get, insert, remove, entries, len-entries, len-empty}
use Rattle.linda_hold.specs.declared.request.Request.{Request}
use Rattle.linda_hold.specs.Request.{same_request}
use Rattle.linda_wire.specs.declared.limits.TheConstants.{MAX_ASKS}
use Rattle.linda_tuple.specs.Tuple.{Tuple}
use Rattle.linda_map_laws.proofs.MapLaws.{get_same, get_other, get_removed_same, get_removed_other, get_empty}
use Rattle.linda_hold.specs.Waits.{Wait, AreDistinct, is_waiting, is_reader, is_taker, without_readers, longest, waits_of}
use Rattle.linda_hold.specs.Holds.{HeldFor, IsHeldAt, IsOneEach, held_in}
use Rattle.linda_store_step.specs.Soft.{Soft, Bagged, IsSoft, AreApart, open_asks, no_asks}
use Rattle.linda_store_step.specs.Dispatch.{dispatch, held_for, release, release_tuple, on_cancel, on_close}
use Rattle.linda_store_step.proofs.WaitLaws.{or_none, found_has}
use Rattle.linda_store_step.proofs.SoftLaws.{kept_waits, cancelling_keeps, closing_keeps}
use Rattle.linda_store_step.proofs.ApartLaws.{same_request_yes, turned_no, held_before, new_or_before, fewer_apart}
use Rattle.linda_store_step.proofs.ApartLaws.{dispatch_apart, taken_apart, waiting_apart, offer_apart}
use Rattle.linda_store_step.proofs.CountLaws.{fewer_pass, found_gone, insert_counted, remove_counted}

-- A tuple is held for a request that held nothing.
pub one_each_held : (holds : HeldFor) (id : ℕ) (request : Request) → IsHeldAt holds request None → IsOneEach holds → IsOneEach (insert holds id request)
one_each_held holds id request nothing each i k other first second =
    elim (new_or_before holds id i request other first) [
      | inl here ↦
          elim (new_or_before holds id k request other second) [
            | inl there ↦ here.0 ∙ sym there.0
            | inr before ↦ absurd (nothing k (before ∙ ap (λ p. Some p) (sym here.1)))
          ]
      | inr was ↦
          elim (new_or_before holds id k request other second) [
            | inl there ↦ absurd (nothing i (was ∙ ap (λ p. Some p) (sym there.1)))
            | inr before ↦ each i k other was before
          ]
    ]

pub one_each_gone : (holds : HeldFor) (id : ℕ) → IsOneEach holds → IsOneEach (remove holds id)
one_each_gone holds id each i k request first second = each i k request (held_before holds id i request first) (held_before holds id k request second)

-- What is held is in the bag, after a hold came and after one went.
there_held : (bag : Bagged) (holds : HeldFor) (id : ℕ) (request : Request) → IsSome (get bag id)
    → ((k : ℕ) → IsSome (get holds k) → IsSome (get bag k)) → (k : ℕ) → IsSome (get (insert holds id request) k) → IsSome (get bag k)
there_held bag holds id request stored there k held =
    elim (cases_eq k id) [
      | inl same ↦ subst (λ i. IsSome (get bag i)) (sym same) stored
      | inr other ↦ there k (subst IsSome (get_other holds id request k other) held)
    ]

there_gone : (bag : Bagged) (holds : HeldFor) (id : ℕ) → ((k : ℕ) → IsSome (get holds k) → IsSome (get bag k))
    → (k : ℕ) → IsSome (get (remove holds id) k) → IsSome (get bag k)
there_gone bag holds id there k held =
    elim (cases_eq k id) [
      | inl same ↦ absurd (true≢false (sym held ∙ ap is_some (ap (get (remove holds id)) same ∙ get_removed_same holds id)))
      | inr other ↦ there k (subst IsSome (get_removed_other holds id k other) held)
    ]

all_pass : {X : Type 0} (xs : List X) → length (filter (λ x. true) xs) ≡ length xs
all_pass [] = refl
all_pass (x ∷ xs) = ap suc (all_pass xs)

-- How many asks are open.
held_count : (client : ℕ) (holds : HeldFor) → length (held_in client (entries holds)) ≡ length (filter (λ e. e.1.client == client) (entries holds))
held_count client holds = length-map (filter (λ (e : ℕ × Request). e.1.client == client) (entries holds)) (λ e. e.0)

held_more : (client id : ℕ) (request : Request) (holds : HeldFor)
    → length (held_in client (entries (insert holds id request))) ≤ length (held_in client (entries holds)) + cond (request.client == client) 1 0
held_more client id request holds =
    let counted = insert_counted (λ (p : Request). p.client == client) holds id request in
    let old = held_count client holds in
    let new = held_count client (insert holds id request) in
    omega (arith, counted, old, new)

held_one : (client id : ℕ) (request : Request) (holds : HeldFor) → request.client ≡ client
    → length (held_in client (entries (insert holds id request))) ≤ length (held_in client (entries holds)) + 1
held_one client id request holds same =
    subst (λ b. length (held_in client (entries (insert holds id request))) ≤ length (held_in client (entries holds)) + cond b 1 0)
    (eq-eqb request.client client same) (held_more client id request holds)

held_none : (client id : ℕ) (request : Request) (holds : HeldFor) → request.client ≢ client
    → length (held_in client (entries (insert holds id request))) ≤ length (held_in client (entries holds)) + 0
held_none client id request holds other =
    subst (λ b. length (held_in client (entries (insert holds id request))) ≤ length (held_in client (entries holds)) + cond b 1 0)
    (ne_eqb request.client client other) (held_more client id request holds)

held_less : (client id : ℕ) (holds : HeldFor) → length (held_in client (entries (remove holds id))) ≤ length (held_in client (entries holds))
held_less client id holds =
    let counted = remove_counted (λ (p : Request). p.client == client) holds id in
    let old = held_count client holds in
    let new = held_count client (remove holds id) in
    omega (arith, counted, old, new)

-- Some no longer wait.
pub fewer_soft : (bag : Bagged) (p : Wait → Bool) (soft : Soft) → IsSoft bag soft → IsSoft bag (kept_waits p soft)
fewer_soft bag p soft is = record {
  distinct = IsDistinct-keys_filter same_request p soft.waits is.distinct;
  one_each = is.one_each;
  apart = fewer_apart p soft is.apart;
  few = λ client. let old = is.few client in let less = fewer_pass (λ w. client == w.0.client) p soft.waits in omega (arith, old, less);
  there = is.there;
}

-- A hold goes.
pub gone_soft : (bag : Bagged) (id : ℕ) (soft : Soft) → IsSoft bag soft → IsSoft bag (record { holds = remove soft.holds id; waits = soft.waits })
gone_soft bag id soft is = record {
  distinct = is.distinct;
  one_each = one_each_gone soft.holds id is.one_each;
  apart = taken_apart id soft is.apart;
  few = λ client. let old = is.few client in let less = held_less client id soft.holds in omega (arith, old, less);
  there = there_gone bag soft.holds id is.there;
}

-- A request that didn't wait and held nothing, of a client with room for one more, gets an offer.
pub offer_soft : (bag : Bagged) (id : ℕ) (request : Request) (soft : Soft) → IsSome (get bag id)
    → is_waiting request soft.waits ≡ false → IsHeldAt soft.holds request None → open_asks request.client soft < MAX_ASKS
    → IsSoft bag soft → IsSoft bag (record { holds = insert soft.holds id request; waits = soft.waits })
offer_soft bag id request soft stored never nothing room is = record {
  distinct = is.distinct;
  one_each = one_each_held soft.holds id request nothing is.one_each;
  apart = offer_apart id request soft never is.apart;
  few = few;
  there = there_held bag soft.holds id request stored is.there;
}
  where
    few : (client : ℕ) → open_asks client (record { holds = insert soft.holds id request; waits = soft.waits }) ≤ MAX_ASKS
    few client =
        let old = is.few client in
        elim (cases_eq request.client client) [
          | inl same ↦
              let here : open_asks client soft < MAX_ASKS = subst (λ c. open_asks c soft < MAX_ASKS) same room in
              let more = held_one client id request soft.holds same in
              omega (arith, here, more)
          | inr other ↦
              let more = held_none client id request soft.holds other in
              omega (arith, old, more)
        ]

-- The first wait that takes the tuple becomes a hold of it.
taken_soft_by : (bag : Bagged) (id : ℕ) (row : Tuple) (soft : Soft) (first : Wait) → longest row soft.waits ≡ Some first → IsSome (get bag id) → IsSoft bag soft
    → IsSoft bag (held_for id (Some first) (record { holds = soft.holds; waits = without_readers row soft.waits }))
taken_soft_by bag id row soft first found stored is = record {
  distinct = IsDistinct-keys_filter same_request (λ w. not (same_request first.0 w.0)) (without_readers row soft.waits)
      (IsDistinct-keys_filter same_request (λ w. not (is_reader row w)) soft.waits is.distinct);
  one_each = one_each_held soft.holds id first.0
      (found_has (is_taker row) (λ w. (k : ℕ) → get soft.holds k ≡ Some w.0 → ⊥) soft.waits first found is.apart) is.one_each;
  apart = subst (λ o. AreApart (held_for id o (record { holds = soft.holds; waits = without_readers row soft.waits }))) found
      (dispatch_apart id row soft is.apart);
  few = few;
  there = there_held bag soft.holds id first.0 stored is.there;
}
  where
    few : (client : ℕ) → open_asks client (held_for id (Some first) (record { holds = soft.holds; waits = without_readers row soft.waits })) ≤ MAX_ASKS
    few client =
        let old = is.few client in
        elim (cases_eq first.0.client client) [
          | inl same ↦
              let more = held_one client id first.0 soft.holds same in
              let less = found_gone (λ (w : Wait). client == w.0.client) (λ w. not (is_reader row w)) (λ w. not (same_request first.0 w.0))
              (is_taker row) soft.waits first found (eq-eqb client first.0.client (sym same)) (ap not (same_request_yes first.0 first.0 refl)) in
              omega (arith, old, more, less)
          | inr other ↦
              let more = held_none client id first.0 soft.holds other in
              let less = fewer_pass (λ (w : Wait). client == w.0.client) (λ w. not (is_reader row w)) soft.waits in
              let fewer = fewer_pass (λ (w : Wait). client == w.0.client) (λ w. not (same_request first.0 w.0)) (without_readers row soft.waits) in
              omega (arith, old, more, less, fewer)
        ]

-- A tuple of the bag that is new or free is dispatched.
pub dispatch_soft : (bag : Bagged) (id : ℕ) (row : Tuple) (soft : Soft) → IsSome (get bag id) → IsSoft bag soft → IsSoft bag (dispatch id row soft).soft
dispatch_soft bag id row soft stored is = by (longest row soft.waits) refl
  where
    by : (first : Option Wait) → longest row soft.waits ≡ first
        → IsSoft bag (held_for id first (record { holds = soft.holds; waits = without_readers row soft.waits }))
    by None none = fewer_soft bag (λ w. not (is_reader row w)) soft is
    by (Some first) found = taken_soft_by bag id row soft first found stored is

-- A new tuple is put, and dispatched.
pub put_soft : (bag : Bagged) (id : ℕ) (row : Tuple) (soft : Soft) → IsSoft bag soft → IsSoft (insert bag id row) (dispatch id row soft).soft
put_soft bag id row soft is = dispatch_soft (insert bag id row) id row soft (ap is_some (get_same bag id row)) (record {
  distinct = is.distinct;
  one_each = is.one_each;
  apart = is.apart;
  few = is.few;
  there = λ k held. still k (is.there k held);
})
  where
    still : (k : ℕ) → IsSome (get bag k) → IsSome (get (insert bag id row) k)
    still k was =
        elim (cases_eq k id) [
          | inl same ↦ ap is_some (ap (get (insert bag id row)) same ∙ get_same bag id row)
          | inr other ↦ ap is_some (get_other bag id row k other) ∙ was
        ]

-- A tuple is taken, and its hold with it.
pub taken_soft : (bag : Bagged) (id : ℕ) (soft : Soft) → IsSoft bag soft → IsSoft (remove bag id) (record { holds = remove soft.holds id; waits = soft.waits })
taken_soft bag id soft is =
    let gone = gone_soft bag id soft is in
    record { distinct = gone.distinct; one_each = gone.one_each; apart = gone.apart; few = gone.few; there = there }
  where
    there : (k : ℕ) → IsSome (get (remove soft.holds id) k) → IsSome (get (remove bag id) k)
    there k held =
        elim (cases_eq k id) [
          | inl same ↦ absurd (true≢false (sym held ∙ ap is_some (ap (get (remove soft.holds id)) same ∙ get_removed_same soft.holds id)))
          | inr other ↦ ap is_some (get_removed_other bag id k other) ∙ there_gone bag soft.holds id is.there k held
        ]

-- A hold is released.
pub freed_soft : (bag : Bagged) (id : ℕ) (soft : Soft) → IsSoft bag soft → IsSoft bag (release bag id soft).soft
freed_soft bag id soft is = by (get bag id) refl
  where
    by : (there : Option Tuple) → get bag id ≡ there → IsSoft bag (release_tuple id there soft).soft
    by None none = is
    by (Some row) stored = dispatch_soft bag id row (record { holds = remove soft.holds id; waits = soft.waits }) (ap is_some stored) (gone_soft bag id soft is)

distinct_push : (w : Wait) (waits : List Wait) → is_waiting w.0 waits ≡ false → AreDistinct waits → AreDistinct (waits ++ w ∷ [])
unfolding IsDistinct
distinct_push w [] never distinct = (tt, tt)
distinct_push w (v ∷ waits) never distinct =
    let parts = or_none (same_request w.0 v.0) (is_waiting w.0 waits) never in
    (others waits distinct.0, distinct_push w waits parts.1 distinct.1)
  where
    others : (ws : List Wait) → AllByRecursion (λ p. same_request v.0 p ≡ false) (keys_of ws)
        → AllByRecursion (λ p. same_request v.0 p ≡ false) (keys_of (ws ++ w ∷ []))
    others [] all = (turned_no w.0 v.0 (or_none (same_request w.0 v.0) (is_waiting w.0 waits) never).0, tt)
    others (u ∷ ws) all = (all.0, others ws all.1)

-- A request that didn't wait and holds nothing, of a client with room for one more, waits.
pub waiting_soft : (bag : Bagged) (w : Wait) (soft : Soft) → is_waiting w.0 soft.waits ≡ false
    → IsHeldAt soft.holds w.0 None → open_asks w.0.client soft < MAX_ASKS
    → IsSoft bag soft → IsSoft bag (record { holds = soft.holds; waits = soft.waits ++ w ∷ [] })
waiting_soft bag w soft never nothing room is = record {
  distinct = distinct_push w soft.waits never is.distinct;
  one_each = is.one_each;
  apart = waiting_apart w soft nothing is.apart;
  few = few;
  there = is.there;
}
  where
    counted : (client : ℕ) → length (waits_of client (soft.waits ++ w ∷ [])) ≡ length (waits_of client soft.waits) + length (waits_of client (w ∷ []))
    counted client = ap length (filter-append (λ (v : Wait). client == v.0.client) soft.waits (w ∷ []))
        ∙ length-append (waits_of client soft.waits) (waits_of client (w ∷ []))

    few : (client : ℕ) → open_asks client (record { holds = soft.holds; waits = soft.waits ++ w ∷ [] }) ≤ MAX_ASKS
    few client =
        let old = is.few client in
        let more = counted client in
        elim (cases_eq w.0.client client) [
          | inl same ↦
              let here : open_asks client soft < MAX_ASKS = subst (λ c. open_asks c soft < MAX_ASKS) same room in
              let one : length (waits_of client (w ∷ [])) ≡ length (w ∷ []) = ap (λ b. length (cond b (w ∷ []) [])) (eq-eqb client w.0.client (sym same)) in
              omega (arith, here, one, more)
          | inr other ↦
              let none : length (waits_of client (w ∷ [])) ≡ length {A = Wait} [] =
              ap (λ b. length (cond b (w ∷ []) [])) (ne_eqb client w.0.client (λ e. other (sym e))) in
              omega (arith, old, none, more)
        ]

nobody : AreDistinct []
unfolding IsDistinct
nobody = tt

-- If nothing is held and nobody waits, all ranges are kept.
pub no_asks_soft : (bag : Bagged) → IsSoft bag no_asks
no_asks_soft bag = record {
  distinct = nobody;
  one_each = λ i k request first second. absurd (none-some request (sym (get_empty i) ∙ first));
  apart = All-nil (λ (w : Wait). (id : ℕ) → get no_asks.holds id ≡ Some w.0 → ⊥);
  few = few;
  there = λ id held. absurd (true≢false (sym held ∙ ap is_some (get_empty id)));
}
  where
    few : (client : ℕ) → open_asks client no_asks ≤ MAX_ASKS
    few client =
        let counted = held_count client no_asks.holds in
        let fewer = fewer_pass (λ (e : ℕ × Request). true) (λ e. e.1.client == client) (entries no_asks.holds) in
        let whole = all_pass (entries no_asks.holds) in
        let left = all_pass (filter (λ (e : ℕ × Request). e.1.client == client) (entries no_asks.holds)) in
        let none = sym (len-entries no_asks.holds) ∙ len-empty nat_cmp Request in
        omega (arith, counted, fewer, whole, left, none)

-- A request is given up; a client is closed.
pub cancelling_soft : (bag : Bagged) (request : Request) (held : Option ℕ) (soft : Soft) → IsSoft bag soft → IsSoft bag (on_cancel bag request held soft).soft
cancelling_soft bag = cancelling_keeps bag (IsSoft bag) (freed_soft bag) (fewer_soft bag)

pub closing_soft : (bag : Bagged) (client : ℕ) (soft : Soft) → IsSoft bag soft → IsSoft bag (on_close bag client soft).soft
closing_soft bag = closing_keeps bag (IsSoft bag) (freed_soft bag) (fewer_soft bag)
