-- Over a proper list of deeds no tuple is taken twice.
use Rattle.std.proofs.Common.{◌≡◌, ℕ, ◌≤◌, Bool, true, false, true≢false, cond, ◌||◌, List, [], ◌∷◌, ◌++◌, length}
use Rattle.std.proofs.Common.{filter, IfSome, IsSome, is_some, refl, sym, ap, ◌∙◌, subst, append_assoc, arith}
use Rattle.std.specs.List.{list_any}
use Rattle.std.specs.FinMap.{get}
use Rattle.linda_store_state.specs.declared.deed.Deed.{Deed}
use Rattle.linda_store_state.specs.Deed.{taken_by, takes, is_taken}
use Rattle.linda_store_state.specs.State.{State, IsState}
use Rattle.linda_store_state.specs.Proper.{IsProper}
use Rattle.linda_store_state.specs.Once.{IsTakenOnce}
use Rattle.linda_store_state.proofs.DeedLaws.{taken_is}
use Rattle.linda_store_state.proofs.AfterLaws.{taken_id}
use Rattle.linda_store_state.proofs.ProperLaws.{Reaches, reached, front_proper}

-- Nothing passes before what passes: each that does is the first.
module _ {X : Type 0} (t : X → Bool) where
  abbrev IsFirst : List X → Type 0
  IsFirst xs = (before : List X) (x : X) (later : List X) → xs ≡ before ++ x ∷ later → t x ≡ true → list_any t before ≡ false

  passes_last : (xs : List X) (x : X) → list_any t xs ≡ true → list_any t (xs ++ x ∷ []) ≡ true
  passes_last [] x some = absurd (true≢false (sym some))
  passes_last (y ∷ xs) x some =
      elim (t y) as (λ b. (b || list_any t xs) ≡ true → (b || list_any t (xs ++ x ∷ [])) ≡ true) [
        | true ↦ λ rest. refl
        | false ↦ λ rest. passes_last xs x rest
      ] some

  -- none passes after one that does
  none_behind : (front xs : List X) → list_any t front ≡ true → IsFirst (front ++ xs) → filter t xs ≡ []
  none_behind front [] some first = refl
  none_behind front (x ∷ xs) some first =
      elim (t x) as (λ b. t x ≡ b → cond b (x ∷ filter t xs) (filter t xs) ≡ []) [
        | true ↦ λ e. absurd (true≢false (sym some ∙ first front x xs refl e))
        | false ↦ λ e. none_behind (front ++ x ∷ []) xs (passes_last front x some) (subst IsFirst (sym (append_assoc front (x ∷ []) xs)) first)
      ] refl

  or_false : (a b : Bool) → (a || b) ≡ false → b ≡ false
  or_false true b none = absurd (true≢false none)
  or_false false b none = none

  once : (xs : List X) → IsFirst xs → length (filter t xs) ≤ 1
  once [] first = omega arith
  once (x ∷ xs) first =
      elim (t x) as (λ b. t x ≡ b → length (cond b (x ∷ filter t xs) (filter t xs)) ≤ 1) [
        | true ↦ λ e.
            let none : length (filter t xs) ≡ 0 = ap length (none_behind (x ∷ []) xs (ap (λ b. b || false) e) first) in
            omega (arith, none)
        | false ↦ λ e. once xs (λ before y later parts passes. or_false (t x) (list_any t before) (first (x ∷ before) y later (ap (λ l. x ∷ l) parts) passes))
      ] refl

-- What a deed takes was not taken before.
not_before : (st : State) (before : List Deed) (d : Deed) (later : List Deed) (id : ℕ) → IsState st
    → IsProper st (before ++ d ∷ later) → takes id d ≡ true → is_taken id before ≡ false
not_before st before d later id is proper named = by (is_taken id before) refl
  where
    there : Reaches st before
    there = reached st before is (front_proper st before (d ∷ later) proper)

    room : IsSome (get there.new.bag id)
    room = subst (λ o. IfSome o (λ i. IsSome (get there.new.bag i))) (taken_is id (taken_by d) named) (proper before d later there.new refl there.after).room.1

    by : (b : Bool) → is_taken id before ≡ b → b ≡ false
    by false e = refl
    by true e = absurd (true≢false (sym room ∙ ap is_some (there.after.bag id ∙ taken_id st before id e)))

pub taken_once : (st : State) (ds : List Deed) → IsState st → IsProper st ds → IsTakenOnce ds
taken_once st ds is proper id =
    once (takes id) ds (λ before d later parts named. not_before st before d later id is (subst (IsProper st) parts proper) named)
