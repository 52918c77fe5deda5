-- A walk over a map, one run of rows after another: what was put into a set so far.
use Rattle.std.proofs.Common.{◌≡◌, ℕ, zero, suc, ◌<◌, ◌≤◌, arith, Bool, true, false, cond, ◌||◌, ◌==◌, if◌then◌else◌}
use Rattle.std.proofs.Common.{List, [], ◌∷◌, Option, None, Some, is_some, length, get_or, take, refl, sym, ap, subst}
use Rattle.std.proofs.Common.{◌∙◌, inl, inr}
use Rattle.std.proofs.lemmas.Bool.{cases_lt}
use Rattle.linda_rising.specs.Rows.{at, IsUnder, Begins}
use Rattle.linda_rising.proofs.RunLaws.{place_there}

or_false : (b : Bool) → (b || false) ≡ b
or_false true = refl
or_false false = refl

-- What is put is there, or was before.
pub put_too : (here was some : Bool) → cond here true (was || some) ≡ (was || (some || here))
put_too true true some = refl
put_too true false true = refl
put_too true false false = refl
put_too false was some = ap (λ b. was || b) (sym (or_false some))

module _ {T : Type 0} where
  first_there : (b : Bool) (x : T) (later : Option T) → is_some (if b then Some x else later) ≡ (b || is_some later)
  first_there true x later = refl
  first_there false x later = refl

  behind : (b : Bool) (x : T) (some more : Option T) (here : Bool) → is_some more ≡ (is_some some || here)
      → is_some (if b then Some x else more) ≡ (is_some (if b then Some x else some) || here)
  behind true x some more here is = refl
  behind false x some more here is = is

  -- One row more is among the first ones.
  pub one_more : (rows : List (ℕ × T)) (i : ℕ) (none : ℕ × T) → i < length rows → (q : ℕ)
      → is_some (at (take (suc i) rows) q) ≡ (is_some (at (take i rows) q) || (q == (get_or rows i none).0))
  one_more [] i none within q = absurd (omega (arith, within))
  one_more (r ∷ rows) zero none within q = first_there (q == r.0) r.1 None ∙ or_false (q == r.0)
  one_more (r ∷ rows) (suc i) none within q =
      behind (q == r.0) r.1 (at (take i rows) q) (at (take (suc i) rows) q) _ (one_more rows i none (omega (arith, within)) q)

  module _ (row_at : ℕ → Option T) (from : ℕ) (rows : List (ℕ × T)) (next : Option ℕ) (begins : Begins row_at from rows next) where
    none_lower : (q : ℕ) → q < from → at rows q ≡ None
    none_lower q less = by (at rows q) refl
      where
        by : (o : Option T) → at rows q ≡ o → at rows q ≡ None
        by None is = is
        by (Some v) is = let p = place_there rows q (ap is_some is) in absurd (omega (arith, less, begins.run.above p.0 p.1, p.2))

    none_higher : (q n : ℕ) → next ≡ Some n → n ≤ q → at rows q ≡ None
    none_higher q n bound more = by (at rows q) refl
      where
        by : (o : Option T) → at rows q ≡ o → at rows q ≡ None
        by None is = is
        by (Some v) is =
            let p = place_there rows q (ap is_some is) in
            let under = subst (IsUnder (get_or (Rattle.linda_rising.specs.Rows.ids_of rows) p.0 0)) bound (begins.below p.0 p.1) in
            absurd (omega (arith, more, under, p.2))

    -- The set had what is below the run, and now has its rows.
    module _ (before after : ℕ → Bool) (had : (q : ℕ) → q < from → before q ≡ is_some (row_at q)) (free : (q : ℕ)
        → from ≤ q → before q ≡ false) (put : (q : ℕ) → after q ≡ (before q || is_some (at rows q))) where
      pub walked : (q : ℕ) → IsUnder q next → after q ≡ is_some (row_at q)
      walked q under =
          put q
          ∙ elim (cases_lt q from) [
            | inl less ↦ ap (λ o. before q || is_some o) (none_lower q less) ∙ or_false (before q) ∙ had q less
            | inr above ↦ ap (λ b. b || is_some (at rows q)) (free q above) ∙ ap is_some (sym (begins.all q above under))
          ]

      pub ahead : (q n : ℕ) → next ≡ Some n → n ≤ q → after q ≡ false
      ahead q n bound more =
          let low = subst (IsUnder from) bound begins.later in
          put q
          ∙ ap (λ o. before q || is_some o) (none_higher q n bound more)
          ∙ or_false (before q)
          ∙ free q (omega (arith, low, more))
