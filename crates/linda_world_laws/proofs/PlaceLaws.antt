-- Lists and maps in which one place was set, and lists in which nothing occurs twice.
use Rattle.std.proofs.Common.{◌≡◌, ◌≢◌, ℕ, zero, suc, List, [], ◌∷◌, ◌++◌, length, Some, Contains, slice_get, set, ◌⊎◌, inl, inr, refl, sym, ap, ◌∙◌, subst}
use Rattle.std.proofs.lemmas.Option.{none-some, same_Some, slice_get-get_or, get_or_from_slice_get, slice_get_within}
use Rattle.std.proofs.lemmas.Bool.Decides.{eqb_tells}
use Rattle.std.specs.FinMap.{FinMap, get, insert}
use Rattle.std.specs.Ordering.{nat_cmp}
use Rattle.linda_map_laws.proofs.MapLaws.{get_same, get_other}
use Rattle.linda_world_laws.specs.Promises.{IsOnce}

pub same_or_apart : (i k : ℕ) → (i ≡ k) ⊎ (i ≢ k)
same_or_apart i k = elim (eqb_tells i k) [ inl same ↦ inl same.1 | inr apart ↦ inr apart.1 ]

-- What is at a place after one was set: the new one there, and the old ones elsewhere.
pub set_there : {X : Type 0} (xs : List X) (i : ℕ) (x old : X) → slice_get xs i ≡ Some old → slice_get (set xs i x) i ≡ Some x
set_there [] i x old there = absurd (none-some old there)
set_there (y ∷ ys) zero x old there = refl
set_there (y ∷ ys) (suc i) x old there = set_there ys i x old there

pub set_elsewhere : {X : Type 0} (xs : List X) (i k : ℕ) (x : X) → k ≢ i → slice_get (set xs i x) k ≡ slice_get xs k
set_elsewhere [] i k x apart = refl
set_elsewhere (y ∷ ys) zero zero x apart = absurd (apart refl)
set_elsewhere (y ∷ ys) zero (suc k) x apart = refl
set_elsewhere (y ∷ ys) (suc i) zero x apart = refl
set_elsewhere (y ∷ ys) (suc i) (suc k) x apart = set_elsewhere ys i k x (λ same. apart (ap suc same))

-- What holds of the new one, and of each old one elsewhere, holds of each.
pub each_of_set : {X : Type 0} (P : ℕ → X → Type 0) (xs : List X) (i : ℕ) (x old : X) → slice_get xs i ≡ Some old → P i x
    → ((k : ℕ) (y : X) → k ≢ i → slice_get xs k ≡ Some y → P k y) → (k : ℕ) (y : X) → slice_get (set xs i x) k ≡ Some y → P k y
each_of_set {X} P xs i x old there now others k y found = by (same_or_apart k i)
  where
    by : (k ≡ i) ⊎ (k ≢ i) → P k y
    by (inl same) =
        let is : x ≡ y = same_Some x y (sym (set_there xs i x old there) ∙ ap (slice_get (set xs i x)) (sym same) ∙ found) in
        subst (λ j. P j y) (sym same) (subst (P i) is now)
    by (inr apart) = others k y apart (sym (set_elsewhere xs i k x apart) ∙ found)

pub each_of_insert : {X : Type 0} (P : ℕ → X → Type 0) (m : FinMap nat_cmp X) (i : ℕ) (x : X) → P i x
    → ((k : ℕ) (y : X) → k ≢ i → get m k ≡ Some y → P k y) → (k : ℕ) (y : X) → get (insert m i x) k ≡ Some y → P k y
each_of_insert {X} P m i x now others k y found = by (same_or_apart k i)
  where
    by : (k ≡ i) ⊎ (k ≢ i) → P k y
    by (inl same) =
        let is : x ≡ y = same_Some x y (sym (get_same m i x) ∙ ap (get (insert m i x)) (sym same) ∙ found) in
        subst (λ j. P j y) (sym same) (subst (P i) is now)
    by (inr apart) = others k y apart (sym (get_other m i x k apart) ∙ found)

-- what a list contains is at a place, and the other way round
pub place : {X : Type 0} (xs : List X) (x : X) → Contains xs x → (i : ℕ) × (slice_get xs i ≡ Some x)
place xs x there = (there.0, slice_get-get_or xs there.0 x there.1 ∙ ap (λ y. Some y) there.2)

pub placed : {X : Type 0} (xs : List X) (i : ℕ) (x : X) → slice_get xs i ≡ Some x → Contains xs x
placed xs i x there = (i, slice_get_within xs i x there, get_or_from_slice_get xs i x x there)

pub none_there : {X : Type 0} (x : X) → Contains [] x → ⊥
none_there x there = none-some x (place [] x there).1

pub none_twice : {X : Type 0} → IsOnce {X = X} []
none_twice i k x first second = absurd (none-some x first)

-- after one was pushed, each is at its old place, or is that one at the end
place_pushed : {X : Type 0} (xs : List X) (x y : X) (i : ℕ) → slice_get (xs ++ x ∷ []) i ≡ Some y → (slice_get xs i ≡ Some y) ⊎ ((i ≡ length xs) × (x ≡ y))
place_pushed [] x y zero found = inr (refl, same_Some x y found)
place_pushed [] x y (suc i) found = absurd (none-some y found)
place_pushed (z ∷ xs) x y zero found = inl found
place_pushed (z ∷ xs) x y (suc i) found = elim (place_pushed xs x y i found) [ inl before ↦ inl before | inr last ↦ inr (ap suc last.0, last.1) ]

-- One more occurs once, if it was not there.
pub pushed_once : {X : Type 0} (xs : List X) (x : X) → IsOnce xs → (Contains xs x → ⊥) → IsOnce (xs ++ x ∷ [])
pushed_once {X} xs x once new i k y first second = by (place_pushed xs x y i first) (place_pushed xs x y k second)
  where
    by : (slice_get xs i ≡ Some y) ⊎ ((i ≡ length xs) × (x ≡ y)) → (slice_get xs k ≡ Some y) ⊎ ((k ≡ length xs) × (x ≡ y)) → i ≡ k
    by (inl a) (inl b) = once i k y a b
    by (inl a) (inr b) = absurd (new (placed xs i x (a ∙ ap (λ z. Some z) (sym b.1))))
    by (inr a) (inl b) = absurd (new (placed xs k x (b ∙ ap (λ z. Some z) (sym a.1))))
    by (inr a) (inr b) = a.0 ∙ sym b.0
