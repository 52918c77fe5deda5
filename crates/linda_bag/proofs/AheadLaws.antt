-- A search through keys in ascending order: what is known of the keys that are left, and what follows if one is found and if all are passed.
use Rattle.std.proofs.Common.{◌≡◌, ℕ, ◌≤◌, ◌<◌, ◌⊎◌, inl, inr, arith, Bool, true, false, not, cond, ◌||◌, ◌&&◌, List}
use Rattle.std.proofs.Common.{[], ◌∷◌, filter, refl, sym, ap, subst, ◌∙◌, nat_cmp, Less, true≢false}
use Rattle.std.specs.Ordering.{is_eq, is_le}
use Rattle.std.proofs.lemmas.Bool.Decides.{nat_tests}
use Rattle.std.specs.Cmp.{ranked}
use Rattle.std.specs.List.{AllByRecursion, list_any}
use Rattle.std.specs.List.Sorted.{IsStrictlySortedBy}
use Rattle.std.specs.BTreeMap.{is_at}
use Rattle.std.proofs.lemmas.Map.Keys.{sorted_head, sorted_tail}
use Rattle.std.proofs.lemmas.List.Kept.{IsStrictlySortedBy-filter}
use Rattle.linda_bag.proofs.FilingLaws.{id_told}

-- One of the keys is k.
abbrev pub IsKey : ℕ → List ℕ → Type 0
IsKey k [] = ⊥
IsKey k (x ∷ xs) = (k ≡ x) ⊎ IsKey k xs

-- What is left is in order, and has each key that is wanted.
pub record IsAhead (Wanted : ℕ → Type 0) (left : List ℕ) : Type 0 where
  pub sorted : IsStrictlySortedBy nat_cmp left
  pub each : (k : ℕ) → Wanted k → IsKey k left

key_above : (low k : ℕ) (xs : List ℕ) → AllByRecursion (λ y. nat_cmp low y ≡ Less) xs → IsKey k xs → low < k
key_above low k [] above has = absurd has
key_above low k (x ∷ xs) above (inl same) = subst (λ y. low < y) (sym same) (ranked low x Less (sym above.0))
key_above low k (x ∷ xs) above (inr later) = key_above low k xs above.1 later

-- A key that a search for it finds is one.
pub found_key : (k : ℕ) (xs : List ℕ) → list_any (is_at (nat_cmp k)) xs ≡ true → IsKey k xs
found_key k [] found = absurd (true≢false (sym found))
found_key k (x ∷ xs) found =
    elim (is_eq (nat_cmp k x)) as (λ b. is_eq (nat_cmp k x) ≡ b → IsKey k (x ∷ xs)) [
      | true ↦ λ is. inl ((id_told k x).0 is)
      | false ↦ λ off. inr (found_key k xs (sym (ap (λ b. b || list_any (is_at (nat_cmp k)) xs) off) ∙ found))
    ] refl

module _ (Wanted : ℕ → Type 0) (left : List ℕ) (k : ℕ) (rest : List ℕ) (ahead : IsAhead Wanted left) (starts : left ≡ k ∷ rest) where
  known : IsAhead Wanted (k ∷ rest)
  known = subst (IsAhead Wanted) starts ahead

  -- If the first key is not wanted, only the others are left.
  pub fewer_ahead : (Wanted k → ⊥) → IsAhead Wanted rest
  fewer_ahead unwanted = record {
    sorted = sorted_tail nat_cmp k rest known.sorted;
    each = λ q wanted. elim (known.each q wanted) [ inl same ↦ absurd (unwanted (subst Wanted same wanted)) | inr later ↦ later ];
  }

  -- No key below the first that is left is wanted.
  pub none_before : (q : ℕ) → q < k → Wanted q → ⊥
  none_before q below wanted =
      elim (known.each q wanted) [
        | inl same ↦ omega arith
        | inr later ↦ let above = key_above k q rest (sorted_head nat_cmp k rest known.sorted) later in omega arith
      ]

-- If nothing is left, no key is wanted.
pub none_ahead : (Wanted : ℕ → Type 0) (left : List ℕ) → IsAhead Wanted left → left ≡ [] → (k : ℕ) → Wanted k → ⊥
none_ahead Wanted left ahead ended k wanted = (subst (IsAhead Wanted) ended ahead).each k wanted

-- Of the keys that pass a test, each that is wanted passes it.
kept_key : (p : ℕ → Bool) (k : ℕ) (xs : List ℕ) → p k ≡ true → IsKey k xs → IsKey k (filter p xs)
kept_key p k [] passes has = absurd has
kept_key p k (x ∷ xs) passes (inl same) =
    elim (p x) as (λ b. p x ≡ b → IsKey k (cond b (x ∷ filter p xs) (filter p xs))) [
      | true ↦ λ is. inl same
      | false ↦ λ off. absurd (true≢false (sym passes ∙ ap p same ∙ off))
    ] refl
kept_key p k (x ∷ xs) passes (inr later) =
    elim (p x) as (λ b. IsKey k (cond b (x ∷ filter p xs) (filter p xs))) [
      | true ↦ inr (kept_key p k xs passes later)
      | false ↦ kept_key p k xs passes later
    ]

-- At the start of a walk through the keys of a set that pass a test, all of them are left.
pub all_ahead : (Wanted : ℕ → Type 0) (p : ℕ → Bool) (xs left : List ℕ) → left ≡ filter p xs → IsStrictlySortedBy nat_cmp xs
    → ((k : ℕ) → Wanted k → p k ≡ true) → ((k : ℕ) → Wanted k → list_any (is_at (nat_cmp k)) xs ≡ true) → IsAhead Wanted left
all_ahead Wanted p xs left is sorted passes there = subst (IsAhead Wanted) (sym is) record {
  sorted = IsStrictlySortedBy-filter nat_cmp p xs sorted;
  each = λ k wanted. kept_key p k xs (passes k wanted) (found_key k xs (there k wanted));
}

-- A number that is not below another comes from it on.
pub from_on : (from k : ℕ) → from ≤ k → (is_le (nat_cmp from k) && not false) ≡ true
from_on from k le = grind (arith, nat_tests)
