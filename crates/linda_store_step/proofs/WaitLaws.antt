-- What holds of the elements that a test keeps, and of the first one that passes it.
use Rattle.std.proofs.Common.{◌≡◌, Bool, true, false, true≢false, cond, List, [], ◌∷◌, Some, None, All, filter, find, ◌||◌, refl, sym, subst, get_or}
use Rattle.std.specs.List.{list_any}
use Rattle.std.proofs.lemmas.Option.{none-some, same_Some}
use Rattle.std.proofs.lemmas.List.Elements.{All-filter, filter_passes, All-nil, All-cons, All-head, All-tail}

-- If neither of two tests passes, each fails.
pub or_none : (a b : Bool) → (a || b) ≡ false → (a ≡ false) × (b ≡ false)
or_none true b none = absurd (true≢false none)
or_none false b none = (refl, none)

module _ {X : Type 0} (p : X → Bool) where
  -- If all have P, and what has P and passes the test has Q, all that are kept have Q.
  pub all_kept : (P Q : X → Type 0) → ((x : X) → p x ≡ true → P x → Q x) → (xs : List X) → All P xs → All Q (filter p xs)
  all_kept P Q gives xs all k d within =
      gives (get_or (filter p xs) k d) (filter_passes p xs k d within) (All-filter p P xs all k d within)

  -- If none is found, none passes.
  pub none_found : (xs : List X) → find p xs ≡ None → All (λ x. p x ≡ false) xs
  none_found [] none = All-nil (λ x. p x ≡ false)
  none_found (x ∷ xs) none =
      elim (p x) as (λ b. p x ≡ b → cond b (Some x) (find p xs) ≡ None → All (λ y. p y ≡ false) (x ∷ xs)) [
        | true ↦ λ e some. absurd (none-some x (sym some))
        | false ↦ λ e rest. All-cons (λ y. p y ≡ false) x xs e (none_found xs rest)
      ] refl none

  -- What is found passes, and has what all have.
  pub found_passes : (xs : List X) (x : X) → find p xs ≡ Some x → p x ≡ true
  found_passes [] x found = absurd (none-some x found)
  found_passes (y ∷ xs) x found =
      elim (p y) as (λ b. p y ≡ b → cond b (Some y) (find p xs) ≡ Some x → p x ≡ true) [
        | true ↦ λ e some. subst (λ z. p z ≡ true) (same_Some y x some) e
        | false ↦ λ e rest. found_passes xs x rest
      ] refl found

  pub found_has : (P : X → Type 0) (xs : List X) (x : X) → find p xs ≡ Some x → All P xs → P x
  found_has P [] x found all = absurd (none-some x found)
  found_has P (y ∷ xs) x found all =
      elim (p y) as (λ b. cond b (Some y) (find p xs) ≡ Some x → P x) [
        | true ↦ λ some. subst P (same_Some y x some) (All-head P y xs all)
        | false ↦ λ rest. found_has P xs x rest (All-tail P y xs all)
      ] found

  -- If `list_any` is false, none passes.
  pub none_passes : (xs : List X) → list_any p xs ≡ false → All (λ x. p x ≡ false) xs
  none_passes [] none = All-nil (λ x. p x ≡ false)
  none_passes (x ∷ xs) none =
      elim (p x) as (λ b. p x ≡ b → (b || list_any p xs) ≡ false → All (λ y. p y ≡ false) (x ∷ xs)) [
        | true ↦ λ e some. absurd (true≢false some)
        | false ↦ λ e rest. All-cons (λ y. p y ≡ false) x xs e (none_passes xs rest)
      ] refl none
