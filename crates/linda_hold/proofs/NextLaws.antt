-- The least of some numbers from one on.
use Rattle.std.proofs.Common.{◌≡◌, ℕ, Bool, Option, None, Some, ◌∙◌}
use Rattle.linda_hold.specs.Arrivals.{IsNext}

-- It is the least of the same numbers, as another test says them.
pub next_as : (has other : ℕ → Bool) (from : ℕ) (o : Option ℕ) → ((q : ℕ) → other q ≡ has q) → IsNext has from o → IsNext other from o
next_as has other from None same none = λ k above. same k ∙ none k above
next_as has other from (Some n) same next = (next.0, same n ∙ next.1, λ k above below. same k ∙ next.2 k above below)
