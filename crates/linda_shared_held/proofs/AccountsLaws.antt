-- What holds either way.
use Rattle.std.proofs.Common.{◌≡◌, ℕ, inl, inr, Result, Ok, Err, OnOk, OnErr}
use Rattle.std.proofs.lemmas.Bool.{cases_eq}

-- Two numbers are equal if they are so either way.
pub either_way : (P : Type 0) (a b : ℕ) → (P → a ≡ b) → ((P → ⊥) → a ≡ b) → a ≡ b
either_way P a b so not_so =
    elim (cases_eq a b) [
      | inl is ↦ is
      | inr differs ↦ absurd (differs (not_so (λ p. differs (so p))))
    ]

-- What holds at Ok, by what holds there.
pub ok_more : {A E : Type 0} (r : Result A E) (P Q : Type 0) → (P → Q) → OnOk r P → OnOk r Q
ok_more (Ok x) P Q f p = f p
ok_more (Err e) P Q f p = tt

-- What holds at Err, by what holds there.
pub err_more : {A E : Type 0} (r : Result A E) (P Q : Type 0) → (P → Q) → OnErr r P → OnErr r Q
err_more (Ok x) P Q f p = tt
err_more (Err e) P Q f p = f p
