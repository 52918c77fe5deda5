-- Seats that come back for their clients' next sessions.
use Rattle.std.proofs.Common.{◌≡◌, ℕ, sym, ap, subst, ◌∙◌, false}
use Rattle.linda_shared_accounts.specs.Account.{Account, account_of}
use Rattle.linda_shared_accounts.specs.Ring.{IsCut, KeepsAbove, IsAbove}
use Rattle.linda_shared_accounts.specs.Accounts.{Accounts, accounts_of, with_place, place_for, ComesBack}
use Rattle.linda_shared_held.specs.Parked.{IsParked}

-- If an account comes back, so does what is left of it.
comes_too : (old : Accounts) (a left : Account) → left ≡ account_of a.client a.deeds a.asked left.ring → ComesBack old.places a → ComesBack old.places left
comes_too old a left same comes = subst (ComesBack old.places) (sym same) (record { out = comes.out; all_here = comes.all_here })

pub parks : (floor : ℕ) (old new : Accounts) (a left : Account) → left ≡ account_of a.client a.deeds a.asked left.ring
    → IsCut a.ring left.ring → KeepsAbove floor a.ring left.ring → IsAbove floor left.ring
    → (ComesBack old.places left → new ≡ accounts_of old.total (with_place old.places left.client (place_for left false)))
    → ComesBack old.places a → IsParked floor old a new
parks floor old new a left same cut kept gone parked comes = record {
  ring = left.ring;
  cut = cut;
  kept = kept;
  gone = gone;
  is = parked (comes_too old a left same comes) ∙ ap (λ (b : Account). accounts_of old.total (with_place old.places b.client (place_for b false))) same;
}

pub loses : (old new : Accounts) (a left : Account) → left ≡ account_of a.client a.deeds a.asked left.ring
    → ((ComesBack old.places left → ⊥) → new ≡ old) → (ComesBack old.places a → ⊥) → new ≡ old
loses old new a left same lost out =
    lost (λ there. let back : ComesBack old.places (account_of a.client a.deeds a.asked left.ring) =
    subst (ComesBack old.places) same there in out (record { out = back.out; all_here = back.all_here }))
