-- Look-ups have one answer each; what is passed over.
use Rattle.std.proofs.Common.{◌≡◌, ℕ, ◌<◌, Bool, true, false, ◌&&◌, Option, Some, None, IfSome, IfNone, is_some, inl}
use Rattle.std.proofs.Common.{inr, refl, sym, ap, ◌∙◌, true≢false, arith}
use Rattle.std.proofs.lemmas.Bool.{cases_lt, cases_eq}
use Rattle.linda_tuple.specs.Template.{Template}
use Rattle.linda_bag.specs.FreeMatch.{IsFreeMatch}
use Rattle.linda_hold.specs.declared.request.Request.{Request}
use Rattle.linda_hold.specs.Holds.{HeldFor, IsHeldAt, IsOneEach}
use Rattle.linda_store_step.specs.Soft.{Bagged}
use Rattle.linda_store_step.specs.Looking.{IsLeast}

-- Two answers to the look-up of the least id are one.
pub one_least : (bag : Bagged) (shape : Template) (passed : ℕ → Bool) (a b : Option ℕ) → IsLeast bag shape passed a → IsLeast bag shape passed b → a ≡ b
one_least bag shape passed (Some i) (Some k) first second =
    elim (cases_lt i k) [
      | inl below ↦ absurd (second.1 i below first.0)
      | inr from ↦
          elim (cases_eq i k) [
            | inl same ↦ ap (λ n. Some n) same
            | inr apart ↦ absurd (first.1 k (omega arith) second.0)
          ]
    ]
one_least bag shape passed (Some i) None first second = absurd (second i first.0)
one_least bag shape passed None (Some k) first second = absurd (first k second.0)
one_least bag shape passed None None first second = refl

-- Two answers to what is held for a request are the same, if no request holds two tuples.
pub one_held : (holds : HeldFor) (request : Request) (a b : Option ℕ) → IsOneEach holds → IsHeldAt holds request a → IsHeldAt holds request b → a ≡ b
one_held holds request (Some i) (Some k) each first second = ap (λ n. Some n) (each i k request first second)
one_held holds request (Some i) None each first second = absurd (second i first)
one_held holds request None (Some k) each first second = absurd (first k second)
one_held holds request None None each first second = refl

-- What an input does not pass over is not held.
pub not_held : (takes : Bool) {X : Type 0} (o : Option X) → (takes && is_some o) ≡ false → takes ≡ true → o ≡ None
not_held true None free is = refl
not_held true (Some x) free is = absurd (true≢false free)
not_held false o free is = absurd (true≢false (sym is))

-- Tests that answer alike leave the same ids free.
same_free : (bag : Bagged) (shape : Template) (p q : ℕ → Bool) (id : ℕ) → p id ≡ q id → IsFreeMatch bag shape p id → IsFreeMatch bag shape q id
same_free bag shape p q id alike is = record { row = is.row; stored = is.stored; matches = is.matches; free = sym alike ∙ is.free }

-- What a bag finds is the least id, if the set that it is given has exactly the ids that are passed over.
module _ (bag : Bagged) (shape : Template) (ids passed : ℕ → Bool) (same : (k : ℕ) → ids k ≡ passed k) where
  in_set : (k : ℕ) → IsFreeMatch bag shape passed k → IsFreeMatch bag shape ids k
  in_set k is = same_free bag shape passed ids k (sym (same k)) is

  pub least_found : (result : Option ℕ) → IfSome result (IsFreeMatch bag shape ids)
      → IfSome result (λ id. (k : ℕ) → k < id → IsFreeMatch bag shape ids k → ⊥)
      → IfNone result ((k : ℕ) → IsFreeMatch bag shape ids k → ⊥) → IsLeast bag shape passed result
  least_found (Some id) found least none = (same_free bag shape ids passed id (same id) found, λ k below is. least k below (in_set k is))
  least_found None found least none = λ k is. none k (in_set k is)
