-- What is found under each client is its own, after a change under one of them. What is found is a function here, so
-- that no law speaks of a map.
use Rattle.std.proofs.Common.{◌≡◌, ◌≢◌, ℕ, Option, Some, None, sym, ap, ◌∙◌, inl, inr}
use Rattle.std.specs.Option.{ForSome}
use Rattle.std.proofs.lemmas.Bool.{cases_eq}
use Rattle.std.proofs.lemmas.Option.{none-some, same_Some}

abbrev pub Owned : {B : Type 0} → (B → ℕ) → (ℕ → Option B) → Type 0
Owned owner find = (q : ℕ) → ForSome (find q) (λ m. owner m ≡ q)

owned_but : {B : Type 0} (owner : B → ℕ) (old new : ℕ → Option B) (c : ℕ) → ForSome (new c) (λ m. owner m ≡ c)
    → ((q : ℕ) → q ≢ c → new q ≡ old q) → Owned owner old → Owned owner new
owned_but owner old new c here others before q m is =
    elim (cases_eq q c) [
      | inl same ↦ here m (ap new (sym same) ∙ is) ∙ sym same
      | inr differs ↦ before q m (sym (others q differs) ∙ is)
    ]

pub owned_with : {B : Type 0} (owner : B → ℕ) (old new : ℕ → Option B) (c : ℕ) (b : B) → new c ≡ Some b → owner b ≡ c
    → ((q : ℕ) → q ≢ c → new q ≡ old q) → Owned owner old → Owned owner new
owned_with owner old new c b at its = owned_but owner old new c (λ m is. ap owner (sym (same_Some b m (sym at ∙ is))) ∙ its)

pub owned_without : {B : Type 0} (owner : B → ℕ) (old new : ℕ → Option B) (c : ℕ) → new c ≡ None
    → ((q : ℕ) → q ≢ c → new q ≡ old q) → Owned owner old → Owned owner new
owned_without owner old new c gone = owned_but owner old new c (λ m is. absurd (none-some m (sym gone ∙ is)))
