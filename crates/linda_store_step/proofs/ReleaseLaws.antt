-- A request that was given up neither waits nor holds, and so it is with all requests of a client that was closed.
use Rattle.std.proofs.Common.{◌≡◌, ◌≢◌, ℕ, Bool, true, false, cond, not, ◌&&◌, ◌||◌, ◌==◌, List, [], ◌∷◌, map, Option}
use Rattle.std.proofs.Common.{Some, None, IsSome, is_some, All, filter, inl, inr, refl, sym, ap, ◌∙◌, subst, true≢false}
use Rattle.std.proofs.Common.{eq-eqb, ne_eqb, nat_cmp, get_or}
use Rattle.std.proofs.lemmas.Option.{none-some, same_Some}
use Rattle.std.proofs.lemmas.List.Folds.{list_any_none}
use Rattle.std.specs.List.{list_any}
use Rattle.std.specs.Ordering.{eq_by_cmp}
use Rattle.std.specs.Cmp.{unsigned_ties}
use Rattle.std.specs.FinMap.{get, remove, entries, find, get-entries}
use Rattle.linda_tuple.specs.Tuple.{Tuple}
use Rattle.linda_map_laws.proofs.MapLaws.{get_removed_same}
use Rattle.linda_hold.specs.declared.request.Request.{Request}
use Rattle.linda_hold.specs.Request.{same_request}
use Rattle.linda_hold.specs.Waits.{Wait, is_waiting, is_reader, is_taker, without, without_client, without_readers, longest}
use Rattle.linda_hold.specs.Holds.{HeldFor, IsHeldAt, held_in}
use Rattle.linda_store_step.specs.Soft.{Soft, Bagged, IsSoft}
use Rattle.linda_store_step.specs.Dispatch.{no_sends, held_for, release, release_tuple, release_if, on_cancel, release_all, on_close}
use Rattle.linda_store_step.proofs.WaitLaws.{or_none, found_has, none_passes}
use Rattle.linda_store_step.proofs.SoftLaws.{kept_waits, all_freed_keeps}
use Rattle.linda_store_step.proofs.ApartLaws.{other_request, same_request_is, held_before, new_or_before}
use Rattle.linda_store_step.proofs.RangeLaws.{fewer_soft, freed_soft}

module _ {X : Type 0} (t : X → Bool) where
  neither : (a b : Bool) → a ≡ false → b ≡ false → (a || b) ≡ false
  neither a b first second = ap (λ c. c || b) first ∙ second

  -- If none passes, none of those that are kept does.
  none_kept : (p : X → Bool) (xs : List X) → list_any t xs ≡ false → list_any t (filter p xs) ≡ false
  none_kept p [] none = refl
  none_kept p (x ∷ xs) none =
      let parts = or_none (t x) (list_any t xs) none in
      let rest = none_kept p xs parts.1 in
      elim (p x) as (λ b. list_any t (cond b (x ∷ filter p xs) (filter p xs)) ≡ false) [
        | true ↦ neither (t x) (list_any t (filter p xs)) parts.0 rest
        | false ↦ rest
      ]

  -- None passes once those that do are removed.
  none_left : (xs : List X) → list_any t (filter (λ x. not (t x)) xs) ≡ false
  none_left [] = refl
  none_left (x ∷ xs) =
      let rest = none_left xs in
      elim (t x) as (λ b. t x ≡ b → list_any t (cond (not b) (x ∷ filter (λ y. not (t y)) xs) (filter (λ y. not (t y)) xs)) ≡ false) [
        | true ↦ λ e. rest
        | false ↦ λ e. neither (t x) (list_any t (filter (λ y. not (t y)) xs)) e rest
      ] refl

-- A release adds no waits.
pub freed_waits : (t : Wait → Bool) (bag : Bagged) (id : ℕ) (soft : Soft) → list_any t soft.waits ≡ false → list_any t (release bag id soft).soft.waits ≡ false
freed_waits t bag id soft none = by (get bag id)
  where
    first : (row : Tuple) (o : Option Wait)
        → list_any t (held_for id o (record { holds = remove soft.holds id; waits = without_readers row soft.waits })).waits ≡ false
    first row None = none_kept t (λ w. not (is_reader row w)) soft.waits none
    first row (Some w) = none_kept t (λ v. not (same_request w.0 v.0)) (without_readers row soft.waits)
        (none_kept t (λ v. not (is_reader row v)) soft.waits none)

    by : (there : Option Tuple) → list_any t (release_tuple id there soft).soft.waits ≡ false
    by None = none
    by (Some row) = first row (longest row soft.waits)

other_id : (holds : HeldFor) (id k : ℕ) (request : Request) → get (remove holds id) k ≡ Some request → k ≢ id
other_id holds id k request held same = none-some request (sym (get_removed_same holds id) ∙ subst (λ i. get (remove holds id) i ≡ Some request) same held)

-- What is held after a release for a request that doesn't wait was held for it before, and is another tuple.
pub freed_holds : (bag : Bagged) (id : ℕ) (soft : Soft) → ((k : ℕ) → IsSome (get soft.holds k) → IsSome (get bag k))
    → (request : Request) → All (λ (w : Wait). w.0 ≢ request) soft.waits
    → (k : ℕ) → get (release bag id soft).soft.holds k ≡ Some request → (k ≢ id) × (get soft.holds k ≡ Some request)
freed_holds bag id soft stored request never k = by (get bag id) refl
  where
    gone : get (remove soft.holds id) k ≡ Some request → (k ≢ id) × (get soft.holds k ≡ Some request)
    gone held = (other_id soft.holds id k request held, held_before soft.holds id k request held)

    first : (row : Tuple) (o : Option Wait) → longest row soft.waits ≡ o
        → get (held_for id o (record { holds = remove soft.holds id; waits = without_readers row soft.waits })).holds k ≡ Some request
        → (k ≢ id) × (get soft.holds k ≡ Some request)
    first row None e held = gone held
    first row (Some w) e held =
        elim (new_or_before (remove soft.holds id) id k w.0 request held) [
          | inl new ↦ absurd (found_has (is_taker row) (λ v. v.0 ≢ request) soft.waits w e never new.1)
          | inr before ↦ gone before
        ]

    by : (there : Option Tuple) → get bag id ≡ there → get (release_tuple id there soft).soft.holds k ≡ Some request
        → (k ≢ id) × (get soft.holds k ≡ Some request)
    by None none held = ((λ same. true≢false (sym (stored k (ap is_some held)) ∙ ap is_some (ap (get bag) same ∙ none))), held)
    by (Some row) e held = first row (longest row soft.waits) refl held

not_among : (request : Request) (waits : List Wait) → is_waiting request waits ≡ false → All (λ (w : Wait). w.0 ≢ request) waits
not_among request waits none k d within same = other_request request _ (none_passes (λ w. same_request request w.0) waits none k d within) (sym same)

-- A request that was given up doesn't wait.
pub cancelled_waits : (bag : Bagged) (request : Request) (held : Option ℕ) (soft : Soft)
    → is_waiting request (on_cancel bag request held soft).soft.waits ≡ false
cancelled_waits bag request held soft = by (is_waiting request soft.waits) refl
  where
    release : (held : Option ℕ) → is_waiting request soft.waits ≡ false → is_waiting request (release_if bag held soft).soft.waits ≡ false
    release None none = none
    release (Some id) none = freed_waits (λ w. same_request request w.0) bag id soft none

    by : (b : Bool) → is_waiting request soft.waits ≡ b
        → is_waiting request (cond b (no_sends (record { holds = soft.holds; waits = without request soft.waits })) (release_if bag held soft)).soft.waits
        ≡ false
    by true e = none_left (λ w. same_request request w.0) soft.waits
    by false e = release held e

-- A request that was given up holds nothing.
pub cancelled_holds : (bag : Bagged) (request : Request) (held : Option ℕ) (soft : Soft) → IsSoft bag soft
    → IsHeldAt soft.holds request held → IsHeldAt (on_cancel bag request held soft).soft.holds request None
cancelled_holds bag request held soft is held_is = by (is_waiting request soft.waits) refl
  where
    waits_not : (k : ℕ) → get soft.holds k ≡ Some request → is_waiting request soft.waits ≡ false
    waits_not k was = list_any_none (λ (w : Wait). same_request request w.0) soft.waits (λ i d within. apart (get_or soft.waits i d) (is.apart i d within))
      where
        apart : (w : Wait) → ((id : ℕ) → get soft.holds id ≡ Some w.0 → ⊥) → same_request request w.0 ≡ false
        apart w no_hold =
            elim (same_request request w.0) as (λ b. same_request request w.0 ≡ b → b ≡ false) [
              | true ↦ λ e. absurd (no_hold k (was ∙ ap (λ p. Some p) (same_request_is request w.0 e)))
              | false ↦ λ e. refl
            ] refl

    release : (held : Option ℕ) → IsHeldAt soft.holds request held → is_waiting request soft.waits ≡ false
        → IsHeldAt (release_if bag held soft).soft.holds request None
    release None nothing none = nothing
    release (Some id) was none = λ k still.
        let before = freed_holds bag id soft is.there request (not_among request soft.waits none) k still in
        before.0 (is.one_each k id request before.1 was)

    by : (b : Bool) → is_waiting request soft.waits ≡ b
        → IsHeldAt (cond b (no_sends (record { holds = soft.holds; waits = without request soft.waits })) (release_if bag held soft)).soft.holds request None
    by true e = λ k was. true≢false (sym e ∙ waits_not k was)
    by false e = release held held_is e

-- An id that is held for a client is among those of the client.
among : (client k : ℕ) (request : Request) → (request.client == client) ≡ true → (es : List (ℕ × Request))
    → find nat_cmp k es ≡ Some request → list_any (λ i. k == i) (held_in client es) ≡ true
among client k request owned [] found = absurd (none-some request found)
among client k request owned (e ∷ es) found =
    elim (eq_by_cmp nat_cmp k e.0) as (λ b. eq_by_cmp nat_cmp k e.0 ≡ b → cond b (Some e.1) (find nat_cmp k es) ≡ Some request
    → list_any (λ i. k == i) (held_in client (e ∷ es)) ≡ true) [
      | true ↦ λ tied some.
          let mine : (e.1.client == client) ≡ true = ap (λ (p : Request). p.client == client) (same_Some e.1 request some) ∙ owned in
          ap (λ b. list_any (λ i. k == i)
          (map (λ (f : ℕ × Request). f.0) (cond b (e ∷ filter (λ f. f.1.client == client) es) (filter (λ f. f.1.client == client) es)))) mine
          ∙ ap (λ b. b || list_any (λ i. k == i) (held_in client es)) (unsigned_ties k e.0 ∙ tied)
      | false ↦ λ tied later.
          elim (e.1.client == client) as
          (λ b. list_any (λ i. k == i)
          (map (λ (f : ℕ × Request). f.0) (cond b (e ∷ filter (λ f. f.1.client == client) es) (filter (λ f. f.1.client == client) es))) ≡ true) [
            | true ↦ or_right (k == e.0) _ (among client k request owned es later)
            | false ↦ among client k request owned es later
          ]
    ] refl found
  where
    or_right : (a b : Bool) → b ≡ true → (a || b) ≡ true
    or_right true b is = refl
    or_right false b is = is

-- No wait of a client is left when it is closed.
pub closed_waits : (bag : Bagged) (client : ℕ) (soft : Soft) → list_any (λ w. client == w.0.client) (on_close bag client soft).soft.waits ≡ false
closed_waits bag client soft =
    all_freed_keeps bag (λ s. list_any (λ (w : Wait). client == w.0.client) s.waits ≡ false)
    (λ id s none. freed_waits (λ w. client == w.0.client) bag id s none)
    (λ p s none. none_kept (λ w. client == w.0.client) p s.waits none)
    (held_in client (entries soft.holds)) (record { holds = soft.holds; waits = without_client client soft.waits })
    (none_left (λ w. client == w.0.client) soft.waits)

module _ (bag : Bagged) (client : ℕ) (request : Request) (owned : request.client ≡ client) where
  not_owned : (waits : List Wait) → list_any (λ w. client == w.0.client) waits ≡ false → All (λ (w : Wait). w.0 ≢ request) waits
  not_owned waits none k d within same =
      true≢false (sym (eq-eqb client _ (sym owned ∙ sym (ap (λ (p : Request). p.client) same))) ∙ none_passes (λ w. client == w.0.client) waits none k d within)

  -- Nothing is held for it when all that it held is released.
  all_released : (ids : List ℕ) (soft : Soft) → IsSoft bag soft → list_any (λ w. client == w.0.client) soft.waits ≡ false
      → ((k : ℕ) → get soft.holds k ≡ Some request → list_any (λ i. k == i) ids ≡ true) → IsHeldAt (release_all bag ids soft).soft.holds request None
  all_released [] soft is none listed = λ k held. true≢false (sym (listed k held))
  all_released (id ∷ ids) soft is none listed =
      all_released ids (release bag id soft).soft (freed_soft bag id soft is) (freed_waits (λ w. client == w.0.client) bag id soft none)
      (λ k held.
      let before = freed_holds bag id soft is.there request (not_owned soft.waits none) k held in
      ap (λ b. b || list_any (λ i. k == i) ids) (sym (ne_eqb k id before.0)) ∙ listed k before.1)

  -- Nothing is held for a client when it is closed.
  pub closed_holds : (soft : Soft) → IsSoft bag soft → IsHeldAt (on_close bag client soft).soft.holds request None
  closed_holds soft is =
      all_released (held_in client (entries soft.holds)) (kept_waits (λ w. not (client == w.0.client)) soft)
      (fewer_soft bag (λ w. not (client == w.0.client)) soft is) (none_left (λ w. client == w.0.client) soft.waits)
      (λ k held. among client k request (eq-eqb request.client client owned) (entries soft.holds) (sym (get-entries soft.holds k) ∙ held))

  -- No ticket of the client waits when it is closed.
  pub closed_waits_not : (soft : Soft) → is_waiting request (on_close bag client soft).soft.waits ≡ false
  closed_waits_not soft =
      list_any_none (λ (w : Wait). same_request request w.0) (on_close bag client soft).soft.waits
      (λ k d within. other_client (get_or (on_close bag client soft).soft.waits k d)
      (none_passes (λ w. client == w.0.client) (on_close bag client soft).soft.waits (closed_waits bag client soft) k d within))
    where
      other_client : (w : Wait) → (client == w.0.client) ≡ false → same_request request w.0 ≡ false
      other_client w other = ap (λ b. b && (request.ticket == w.0.ticket)) (ap (λ c. c == w.0.client) owned ∙ other)
