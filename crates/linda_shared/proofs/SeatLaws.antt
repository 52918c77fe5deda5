-- Messages of which nothing was reported, and the count of the deeds that were reported to seats.
use Rattle.std.proofs.Common.{◌≡◌, ◌⊎◌, inl, inr, subst, ℕ, ◌+◌, ◌-◌, ◌^◌, min, List, [], ◌∷◌, Option, Some, None}
use Rattle.std.proofs.Common.{IfSome, IsSome, true≢false, refl, sym, ap, ◌∙◌, arith}
use Rattle.std.proofs.lemmas.List.Sums.{sum_by-cons}
use Rattle.linda_wire.specs.declared.message.Message.{Message}
use Rattle.linda_shared_accounts.specs.declared.receipt.Receipt.{Receipt}
use Rattle.linda_shared_accounts.specs.declared.fault.SharedFault.{SharedFault}
use Rattle.linda_shared_accounts.specs.declared.fault.SharedFault.TheVariants as faults
use Rattle.linda_shared_accounts.specs.Account.{Account}
use Rattle.linda_shared_queue.specs.Seat.{with_all, AreToldOf, IsLeftBy, deeds_told}

-- ---- messages of which nothing was reported

abbrev nothing_told : List Message → List (Option Receipt)
nothing_told [] = []
nothing_told (m ∷ ms) = None ∷ nothing_told ms

all_nothing : (a : Account) (ms : List Message) → with_all a (nothing_told ms) ≡ a
all_nothing a [] = refl
all_nothing a (m ∷ ms) = all_nothing a ms

are_nothing : (c : ℕ) (ms : List Message) → AreToldOf c ms (nothing_told ms)
are_nothing c [] = tt
are_nothing c (m ∷ ms) = (tt, are_nothing c ms)

pub nothing_left : (ms : List Message) (a : Account) (fault : SharedFault) (new : Account)
    → (fault ≡ faults.Down) ⊎ (fault ≡ faults.Memory) → new ≡ a → IsLeftBy ms a fault new
nothing_left ms a fault new (inl is) same =
    subst (λ f. IsLeftBy ms a f new) (sym is) (record { told = nothing_told ms; account = same ∙ sym (all_nothing a ms); deeds = are_nothing a.client ms })
nothing_left ms a fault new (inr is) same = subst (λ f. IsLeftBy ms a f new) (sym is) same

-- ---- the count of the deeds that were reported to seats

-- One more is counted.
pub more_told : (told next : Option ℕ) (more all : ℕ) (a : Account) (before rest : List Account)
    → IfSome told (λ t. t + deeds_told before ≡ all) → before ≡ a ∷ rest
    → more ≡ min a.deeds (2 ^ 64 - 1) → IfSome next (λ sum. IfSome told (λ one. sum ≡ one + more) × IsSome told)
    → IfSome next (λ sum. sum + deeds_told rest ≡ all)
more_told told None more all a before rest so is counts step = tt
more_told None (Some sum) more all a before rest so is counts step = absurd (true≢false (sym step.1))
more_told (Some t) (Some sum) more all a before rest so is counts step =
    let cut = ap deeds_told is ∙ sum_by-cons (λ (x : Account). min x.deeds (2 ^ 64 - 1)) a rest in
    let now = step.0 in
    omega (arith, so, cut, counts, now)
