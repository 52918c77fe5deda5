-- Nobody waits and holds with the same ticket, after each move.
use Rattle.std.proofs.Common.{◌≡◌, ◌≢◌, ℕ, Bool, true, false, not, ◌==◌, ◌⊎◌, [], ◌∷◌, ◌++◌, Option, Some, None, All}
use Rattle.std.proofs.Common.{inl, inr, refl, sym, ◌∙◌, subst, true≢false, eq-eqb, eqb-true}
use Rattle.std.proofs.lemmas.Bool.{cases_eq, and_from, and_parts}
use Rattle.std.proofs.lemmas.Option.{none-some, same_Some}
use Rattle.std.proofs.lemmas.List.Elements.{All-filter, All-push}
use Rattle.std.specs.FinMap.{get, insert, remove}
use Rattle.linda_tuple.specs.Tuple.{Tuple}
use Rattle.linda_map_laws.proofs.MapLaws.{get_same, get_other, get_removed_same, get_removed_other}
use Rattle.linda_hold.specs.declared.request.Request.{Request}
use Rattle.linda_hold.specs.Request.{request_of, same_request}
use Rattle.linda_hold.specs.Waits.{Wait, is_waiting, is_reader, without_readers, longest}
use Rattle.linda_hold.specs.Holds.{HeldFor, IsHeldAt}
use Rattle.linda_store_step.specs.Soft.{Soft, AreApart}
use Rattle.linda_store_step.specs.Dispatch.{dispatch, held_for}
use Rattle.linda_store_step.proofs.WaitLaws.{all_kept, none_passes}
use Rattle.linda_store_step.proofs.SoftLaws.{kept_waits}

-- Requests that are the same pass the test.
pub same_request_yes : (p q : Request) → p ≡ q → same_request p q ≡ true
same_request_yes p q same =
    subst (λ r. same_request p r ≡ true) same
    (and_from (p.client == p.client) (p.ticket == p.ticket) (eq-eqb p.client p.client refl) (eq-eqb p.ticket p.ticket refl))

pub other_request : (p q : Request) → same_request p q ≡ false → p ≢ q
other_request p q other same = true≢false (sym (same_request_yes p q same) ∙ other)

-- Requests that pass the test are the same, and it is the same test turned round.
pub same_request_is : (p q : Request) → same_request p q ≡ true → p ≡ q
same_request_is p q is =
    let parts = and_parts (p.client == q.client) (p.ticket == q.ticket) is in
    let clients : p.client ≡ q.client = eqb-true p.client q.client parts.0 in
    let tickets : p.ticket ≡ q.ticket = eqb-true p.ticket q.ticket parts.1 in
    λ i. request_of (clients i) (tickets i)

pub turned_no : (p q : Request) → same_request p q ≡ false → same_request q p ≡ false
turned_no p q differ = by (same_request q p) refl
  where
    by : (b : Bool) → same_request q p ≡ b → b ≡ false
    by true e = absurd (other_request p q differ (sym (same_request_is q p e)))
    by false e = refl

not_true : (b : Bool) → not b ≡ true → b ≡ false
not_true true is = sym is
not_true false is = refl

-- What is held after a removal was held before.
pub held_before : (holds : HeldFor) (id k : ℕ) (request : Request) → get (remove holds id) k ≡ Some request → get holds k ≡ Some request
held_before holds id k request held =
    elim (cases_eq k id) [
      | inl same ↦ absurd (none-some request (sym (get_removed_same holds id) ∙ subst (λ i. get (remove holds id) i ≡ Some request) same held))
      | inr other ↦ sym (get_removed_other holds id k other) ∙ held
    ]

-- What is held after a hold came is that one, or was held before.
pub new_or_before : (holds : HeldFor) (id k : ℕ) (new request : Request) → get (insert holds id new) k ≡ Some request
    → ((k ≡ id) × (new ≡ request)) ⊎ (get holds k ≡ Some request)
new_or_before holds id k new request held =
    elim (cases_eq k id) [
      | inl same ↦ inl (same, same_Some new request (sym (get_same holds id new) ∙ subst (λ i. get (insert holds id new) i ≡ Some request) same held))
      | inr other ↦ inr (sym (get_other holds id new k other) ∙ held)
    ]

-- A tuple is held for a request that doesn't wait.
pub held_apart : (id : ℕ) (request : Request) (soft : Soft) → All (λ (w : Wait). same_request request w.0 ≡ false) soft.waits
    → AreApart soft → AreApart (record { holds = insert soft.holds id request; waits = soft.waits })
held_apart id request soft never apart k d within j held =
    elim (new_or_before soft.holds id j request _ held) [
      | inl new ↦ other_request request _ (never k d within) new.1
      | inr before ↦ apart k d within j before
    ]

-- Some no longer wait.
pub fewer_apart : (p : Wait → Bool) (soft : Soft) → AreApart soft → AreApart (kept_waits p soft)
fewer_apart p soft apart = All-filter p (λ (w : Wait). (id : ℕ) → get soft.holds id ≡ Some w.0 → ⊥) soft.waits apart

-- A tuple that is new or free is dispatched.
pub dispatch_apart : (id : ℕ) (row : Tuple) (soft : Soft) → AreApart soft → AreApart (dispatch id row soft).soft
dispatch_apart id row soft apart = by (longest row soft.waits)
  where
    left : AreApart (kept_waits (λ w. not (is_reader row w)) soft)
    left = fewer_apart (λ w. not (is_reader row w)) soft apart

    by : (first : Option Wait) → AreApart (held_for id first (record { holds = soft.holds; waits = without_readers row soft.waits }))
    by None = left
    by (Some first) =
        held_apart id first.0 (kept_waits (λ w. not (same_request first.0 w.0)) (kept_waits (λ w. not (is_reader row w)) soft))
        (all_kept {X = Wait} (λ w. not (same_request first.0 w.0)) (λ w. (id : ℕ) → get soft.holds id ≡ Some w.0
        → ⊥) (λ w. same_request first.0 w.0 ≡ false) (λ w other was. not_true (same_request first.0 w.0) other) (without_readers row soft.waits) left)
        (fewer_apart (λ w. not (same_request first.0 w.0)) (kept_waits (λ w. not (is_reader row w)) soft) left)

-- A hold goes, with its tuple or without.
pub taken_apart : (id : ℕ) (soft : Soft) → AreApart soft → AreApart (record { holds = remove soft.holds id; waits = soft.waits })
taken_apart id soft apart k d within j held = apart k d within j (held_before soft.holds id j _ held)

-- A request that holds nothing waits.
pub waiting_apart : (w : Wait) (soft : Soft) → IsHeldAt soft.holds w.0 None → AreApart soft
    → AreApart (record { holds = soft.holds; waits = soft.waits ++ w ∷ [] })
waiting_apart w soft nothing apart = All-push (λ (v : Wait). (id : ℕ) → get soft.holds id ≡ Some v.0 → ⊥) soft.waits w apart nothing

-- A request that doesn't wait gets an offer.
pub offer_apart : (id : ℕ) (request : Request) (soft : Soft) → is_waiting request soft.waits ≡ false
    → AreApart soft → AreApart (record { holds = insert soft.holds id request; waits = soft.waits })
offer_apart id request soft never = held_apart id request soft (none_passes (λ w. same_request request w.0) soft.waits never)
