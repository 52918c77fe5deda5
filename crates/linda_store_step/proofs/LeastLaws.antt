-- Each look-up of the least id has an answer.
use Rattle.std.proofs.Common.{◌≡◌, ℕ, ◌<◌, ◌⊎◌, Bool, true, false, ◌==◌, cond, List, [], ◌∷◌, Option, Some, None, inl}
use Rattle.std.proofs.Common.{inr, refl, sym, ap, subst, ◌∙◌, true≢false, nat_cmp, arith}
use Rattle.std.proofs.lemmas.Bool.{cases_lt}
use Rattle.std.proofs.lemmas.Option.{none-some, same_Some}
use Rattle.std.specs.Cmp.{unsigned_ties, unsigned_Decides}
use Rattle.std.specs.FinMap.{get, entries, find, get-entries}
use Rattle.linda_tuple.specs.Tuple.{Tuple}
use Rattle.linda_tuple.specs.Template.{Template}
use Rattle.linda_tuple.specs.Matching.{is_match}
use Rattle.linda_bag.specs.FreeMatch.{IsFreeMatch}
use Rattle.linda_bag.proofs.LeftLaws.{HasKey}
use Rattle.linda_store_step.specs.Soft.{Bagged}
use Rattle.linda_store_step.specs.Looking.{IsLeast}

-- The least key of the entries that is good; none if no key is.
LeastOf : (ℕ → Type 0) → List (ℕ × Tuple) → Option ℕ → Type 0
LeastOf Good es (Some id) = Good id × ((k : ℕ) → HasKey k es → k < id → Good k → ⊥)
LeastOf Good es None = (k : ℕ) → HasKey k es → Good k → ⊥

module _ (Good : ℕ → Type 0) (decide : (k : ℕ) → Good k ⊎ (Good k → ⊥)) where
  with_first : (e : ℕ × Tuple) (es : List (ℕ × Tuple)) → Good e.0 ⊎ (Good e.0 → ⊥) → (o : Option ℕ)
      → LeastOf Good es o → (r : Option ℕ) × LeastOf Good (e ∷ es) r
  unfolding LeastOf
  with_first e es (inl good) None none =
      (Some e.0, (good, λ k has below is. elim has [ inl same ↦ omega arith | inr later ↦ none k later is ]))
  with_first e es (inr bad) None none =
      (None, λ k has is. elim has [ inl same ↦ bad (subst Good same is) | inr later ↦ none k later is ])
  with_first e es (inr bad) (Some id) least =
      (Some id, (least.0, λ k has below is. elim has [ inl same ↦ bad (subst Good same is) | inr later ↦ least.1 k later below is ]))
  with_first e es (inl good) (Some id) least =
      elim (cases_lt e.0 id) [
        | inl lower ↦ (Some e.0, (good, λ k has below is. elim has [ inl same ↦ omega arith | inr later ↦ least.1 k later (omega arith) is ]))
        | inr from ↦ (Some id, (least.0, λ k has below is. elim has [ inl same ↦ omega arith | inr later ↦ least.1 k later below is ]))
      ]

  least_of : (es : List (ℕ × Tuple)) → (r : Option ℕ) × LeastOf Good es r
  unfolding LeastOf
  least_of [] = (None, λ k has is. has)
  least_of (e ∷ es) = let rest = least_of es in with_first e es (decide e.0) rest.0 rest.1

-- What is found among entries is under the key of one.
has_key : (k : ℕ) (row : Tuple) (es : List (ℕ × Tuple)) → find nat_cmp k es ≡ Some row → HasKey k es
has_key k row [] found = absurd (none-some row found)
has_key k row (e ∷ es) found =
    elim (k == e.0) as (λ b. (k == e.0) ≡ b → HasKey k (e ∷ es)) [
      | true ↦ λ is. inl ((unsigned_Decides k e.0).0 is)
      | false ↦ λ is. inr (has_key k row es (subst (λ b. cond b (Some e.1) (find nat_cmp k es) ≡ Some row) (sym (unsigned_ties k e.0) ∙ is) found))
    ] refl

module _ (bag : Bagged) (shape : Template) (passed : ℕ → Bool) where
  by_tests : (k : ℕ) (row : Tuple) → get bag k ≡ Some row → (fits out : Bool) → is_match shape row ≡ fits
      → passed k ≡ out → IsFreeMatch bag shape passed k ⊎ (IsFreeMatch bag shape passed k → ⊥)
  by_tests k row stored true false fits free = inl record { row = row; stored = stored; matches = fits; free = free }
  by_tests k row stored true true fits free = inr (λ is. true≢false (sym free ∙ is.free))
  by_tests k row stored false out fits free =
      inr (λ is. true≢false (sym is.matches ∙ ap (is_match shape) (same_Some is.row row (sym is.stored ∙ stored)) ∙ fits))

  by_get : (k : ℕ) (there : Option Tuple) → get bag k ≡ there → IsFreeMatch bag shape passed k ⊎ (IsFreeMatch bag shape passed k → ⊥)
  by_get k None none = inr (λ is. none-some is.row (sym none ∙ is.stored))
  by_get k (Some row) stored = by_tests k row stored (is_match shape row) (passed k) refl refl

  key : (k : ℕ) → IsFreeMatch bag shape passed k → HasKey k (entries bag)
  key k is = has_key k is.row (entries bag) (sym (get-entries bag k) ∙ is.stored)

  least_in_bag : (r : Option ℕ) → LeastOf (IsFreeMatch bag shape passed) (entries bag) r → IsLeast bag shape passed r
  unfolding LeastOf
  least_in_bag (Some id) least = (least.0, λ k below is. least.1 k (key k is) below is)
  least_in_bag None none = λ k is. none k (key k is) is

  -- There is a least free match, or there is none.
  pub some_least : (r : Option ℕ) × IsLeast bag shape passed r
  some_least = let found = least_of (IsFreeMatch bag shape passed) (λ k. by_get k (get bag k) refl) (entries bag) in (found.0, least_in_bag found.0 found.1)
