-- Nobody waits in vain: after each move there is still nothing that a waiting request can have.
use Rattle.std.proofs.Common.{◌≡◌, ◌≢◌, ℕ, Bool, true, false, not, ◌&&◌, [], ◌∷◌, ◌++◌, Option, Some, None, All}
use Rattle.std.proofs.Common.{is_some, inl, inr, refl, sym, ap, ◌∙◌, subst, true≢false}
use Rattle.std.proofs.lemmas.Bool.{cases_eq}
use Rattle.std.proofs.lemmas.Option.{none-some, same_Some}
use Rattle.std.proofs.lemmas.List.Elements.{All-nil, All-filter, All-push}
use Rattle.std.specs.FinMap.{get, insert, remove}
use Rattle.linda_tuple.specs.Tuple.{Tuple}
use Rattle.linda_tuple.specs.Matching.{is_match}
use Rattle.linda_bag.specs.FreeMatch.{IsFreeMatch}
use Rattle.linda_map_laws.proofs.MapLaws.{get_same, get_other, get_removed_same, get_removed_other}
use Rattle.linda_hold.specs.declared.request.Request.{Request}
use Rattle.linda_hold.specs.Request.{same_request}
use Rattle.linda_hold.specs.Waits.{Wait, is_reader, is_taker, without_readers, longest}
use Rattle.linda_hold.specs.Holds.{HeldFor}
use Rattle.linda_store_step.specs.Soft.{Soft, Bagged, no_asks}
use Rattle.linda_store_step.specs.Looking.{IsLeast, passed_over, IsAtRest}
use Rattle.linda_store_step.specs.Dispatch.{dispatch, held_for, release, release_tuple, on_cancel, on_close}
use Rattle.linda_store_step.proofs.LookingLaws.{not_held}
use Rattle.linda_store_step.proofs.WaitLaws.{all_kept, none_found}
use Rattle.linda_store_step.proofs.SoftLaws.{kept_waits, cancelling_keeps, closing_keeps}

-- A waiting request can have this tuple.
abbrev CanHave : Bagged → HeldFor → Wait → ℕ → Type 0
CanHave bag holds w id = IsFreeMatch bag w.1.template (passed_over w.1.remove holds) id

-- What is held alike is passed over alike.
passed_alike : (takes : Bool) (new old : Option Request) → new ≡ old → (takes && is_some new) ≡ false → (takes && is_some old) ≡ false
passed_alike takes new old same free = subst (λ o. (takes && is_some o) ≡ false) same free

-- There is nothing that a waiting request can have, but for one tuple.
abbrev pub IsAtRestBut : Bagged → ℕ → Soft → Type 0
IsAtRestBut bag but soft = All (λ (w : Wait). (id : ℕ) → id ≢ but → CanHave bag soft.holds w id → ⊥) soft.waits

-- A request that matches and is no read of the tuple takes it.
no_read : (takes matches : Bool) → not (not takes && matches) ≡ true → matches ≡ true → takes ≡ true
no_read true matches left fits = refl
no_read false true left fits = left
no_read false false left fits = fits

-- A request that matches and is no input of the tuple doesn't take it.
no_input : (takes matches : Bool) → (takes && matches) ≡ false → matches ≡ true → takes ≡ true → ⊥
no_input true true none fits is = true≢false none
no_input true false none fits is = true≢false (sym fits)
no_input false matches none fits is = true≢false (sym is)

module _ (bag : Bagged) (id : ℕ) (row : Tuple) (stored : get bag id ≡ Some row) where
  -- A wait that isn't a read of the tuple has nothing, if it has nothing else and can't take the tuple.
  nothing_left : (old new : HeldFor) → ((k : ℕ) → k ≢ id → get new k ≡ get old k) → (w : Wait) → not (is_reader row w) ≡ true
      → (is_match w.1.template row ≡ true → w.1.remove ≡ true → get new id ≡ None → ⊥)
      → ((k : ℕ) → k ≢ id → CanHave bag old w k → ⊥) → (k : ℕ) → CanHave bag new w k → ⊥
  nothing_left old new apart w left barred rest k may =
      elim (cases_eq k id) [
        | inl same ↦
            let here : get bag id ≡ Some may.row = subst (λ i. get bag i ≡ Some may.row) same may.stored in
            let row_is : may.row ≡ row = same_Some may.row row (sym here ∙ stored) in
            let fits : is_match w.1.template row ≡ true = subst (λ r. is_match w.1.template r ≡ true) row_is may.matches in
            let takes : w.1.remove ≡ true = no_read w.1.remove (is_match w.1.template row) left fits in
            barred fits takes (subst (λ i. get new i ≡ None) same (not_held w.1.remove (get new k) may.free takes))
        | inr other ↦ rest k other
            (record {
              row = may.row;
              stored = may.stored;
              matches = may.matches;
              free =
                  passed_alike w.1.remove (get new k) (get old k) (apart k other) may.free;
            })
      ]

  -- A dispatch brings to rest what was at rest but for its tuple.
  pub rested : (soft : Soft) → IsAtRestBut bag id soft → IsAtRest bag (dispatch id row soft).soft
  rested soft rest = by (longest row soft.waits) refl
    where
      by : (first : Option Wait) → longest row soft.waits ≡ first
          → IsAtRest bag (held_for id first (record { holds = soft.holds; waits = without_readers row soft.waits }))
      by None none =
          all_kept {X = Wait} (λ w. not (is_reader row w))
          (λ w. (is_taker row w ≡ false) × ((k : ℕ) → k ≢ id → CanHave bag soft.holds w k → ⊥))
          (λ w. (k : ℕ) → CanHave bag soft.holds w k → ⊥)
          (λ w left was. nothing_left soft.holds soft.holds (λ k other. refl) w left
          (λ fits takes free. no_input w.1.remove (is_match w.1.template row) was.0 fits takes) was.1)
          soft.waits (λ k d within. (none_found (is_taker row) soft.waits none k d within, rest k d within))
      by (Some first) some =
          let new = insert soft.holds id first.0 in
          let held : get new id ≡ Some first.0 = get_same soft.holds id first.0 in
          All-filter {X = Wait} (λ w. not (same_request first.0 w.0)) (λ w. (k : ℕ) → CanHave bag new w k → ⊥) (without_readers row soft.waits)
          (all_kept {X = Wait} (λ w. not (is_reader row w))
          (λ w. (k : ℕ) → k ≢ id → CanHave bag soft.holds w k → ⊥)
          (λ w. (k : ℕ) → CanHave bag new w k → ⊥)
          (λ w left was. nothing_left soft.holds new (λ k other. get_other soft.holds id first.0 k other) w left
          (λ fits takes free. none-some first.0 (sym free ∙ held)) was)
          soft.waits rest)

-- A new tuple is put, and dispatched.
pub put_rests : (bag : Bagged) (id : ℕ) (row : Tuple) (soft : Soft) → IsAtRest bag soft → IsAtRest (insert bag id row) (dispatch id row soft).soft
put_rests bag id row soft rest =
    rested (insert bag id row) id row (get_same bag id row) soft
    (λ k d within j other may. rest k d within j (record {
      row = may.row;
      stored = sym (get_other bag id row j other) ∙ may.stored;
      matches = may.matches;
      free = may.free;
    }))

-- A hold is released.
pub freed_rests : (bag : Bagged) (id : ℕ) (soft : Soft) → IsAtRest bag soft → IsAtRest bag (release bag id soft).soft
freed_rests bag id soft rest = by (get bag id) refl
  where
    by : (there : Option Tuple) → get bag id ≡ there → IsAtRest bag (release_tuple id there soft).soft
    by None none = rest
    by (Some row) stored =
        rested bag id row stored (record { holds = remove soft.holds id; waits = soft.waits })
        (λ k d within j other may. rest k d within j (record {
          row = may.row;
          stored = may.stored;
          matches = may.matches;
          free = passed_alike _ (get (remove soft.holds id) j) (get soft.holds j) (get_removed_other soft.holds id j other) may.free;
        }))

-- A tuple is taken, and its hold with it.
pub taken_rests : (bag : Bagged) (id : ℕ) (soft : Soft) → IsAtRest bag soft
    → IsAtRest (remove bag id) (record { holds = remove soft.holds id; waits = soft.waits })
taken_rests bag id soft rest k d within j may =
    elim (cases_eq j id) [
      | inl same ↦ none-some may.row (sym (get_removed_same bag id) ∙ subst (λ i. get (remove bag id) i ≡ Some may.row) same may.stored)
      | inr other ↦ rest k d within j (record {
        row = may.row;
        stored = sym (get_removed_other bag id j other) ∙ may.stored;
        matches = may.matches;
        free = passed_alike _ (get (remove soft.holds id) j) (get soft.holds j) (get_removed_other soft.holds id j other) may.free;
      })
    ]

-- A tuple is held, for whomever: what may be had after it might be had before.
pub held_rests : (bag : Bagged) (id : ℕ) (request : Request) (soft : Soft) → IsAtRest bag soft
    → IsAtRest bag (record { holds = insert soft.holds id request; waits = soft.waits })
held_rests bag id request soft rest k d within j may =
    rest k d within j (record { row = may.row; stored = may.stored; matches = may.matches; free = was_free _ may.free })
  where
    was_free : (takes : Bool) → (takes && is_some (get (insert soft.holds id request) j)) ≡ false → (takes && is_some (get soft.holds j)) ≡ false
    was_free false free = refl
    was_free true free =
        elim (cases_eq j id) [
          | inl same ↦ absurd (true≢false (sym (ap is_some (ap (get (insert soft.holds id request)) same ∙ get_same soft.holds id request)) ∙ free))
          | inr other ↦ passed_alike true (get (insert soft.holds id request) j) (get soft.holds j) (get_other soft.holds id request j other) free
        ]

-- A request that can have nothing waits.
pub waiting_rests : (bag : Bagged) (w : Wait) (soft : Soft) → IsLeast bag w.1.template (passed_over w.1.remove soft.holds) None
    → IsAtRest bag soft → IsAtRest bag (record { holds = soft.holds; waits = soft.waits ++ w ∷ [] })
waiting_rests bag w soft nothing rest = All-push (λ (v : Wait). (id : ℕ) → CanHave bag soft.holds v id → ⊥) soft.waits w rest nothing

-- If nobody waits, nobody waits in vain.
pub no_asks_rest : (bag : Bagged) → IsAtRest bag no_asks
no_asks_rest bag = All-nil (λ (w : Wait). (id : ℕ) → CanHave bag no_asks.holds w id → ⊥)

-- Some no longer wait.
pub fewer_rests : (bag : Bagged) (p : Wait → Bool) (soft : Soft) → IsAtRest bag soft → IsAtRest bag (kept_waits p soft)
fewer_rests bag p soft rest = All-filter p (λ (w : Wait). (id : ℕ) → CanHave bag soft.holds w id → ⊥) soft.waits rest

-- A request is given up; a client is closed.
pub cancelling_rests : (bag : Bagged) (request : Request) (held : Option ℕ) (soft : Soft) → IsAtRest bag soft
    → IsAtRest bag (on_cancel bag request held soft).soft
cancelling_rests bag = cancelling_keeps bag (IsAtRest bag) (freed_rests bag) (fewer_rests bag)

pub closing_rests : (bag : Bagged) (client : ℕ) (soft : Soft) → IsAtRest bag soft → IsAtRest bag (on_close bag client soft).soft
closing_rests bag = closing_keeps bag (IsAtRest bag) (freed_rests bag) (fewer_rests bag)
