-- Seats that come back: for their clients' next sessions, or for good.
use Rattle.std.specs.Prelude.{◌≡◌, ℕ, List, [], ◌∷◌, ◌++◌, true, false}
use Rattle.linda_shared_accounts.specs.declared.receipt.Receipt.{Receipt}
use Rattle.linda_shared_accounts.specs.Account.{Account, account_of}
use Rattle.linda_shared_accounts.specs.Ring.{IsCut, KeepsAbove, IsAbove}
use Rattle.linda_shared_accounts.specs.Accounts.{Accounts, accounts_of, with_place, place_for}
use Rattle.linda_shared_accounts.specs.Accounts.{ComesBack}
use Rattle.linda_shared_held.specs.declared.held.recall.Recall.{Recall}
use Rattle.linda_shared_held.specs.Recall.{floor_of}

-- The account is in its client's place, with its receipts above the floor, and its last one; those
-- up to the floor are gone.
pub record IsParked (floor : ℕ) (old : Accounts) (a : Account) (new : Accounts) : Type 0 where
  pub ring : List Receipt
  pub cut : IsCut a.ring ring
  pub kept : KeepsAbove floor a.ring ring
  pub gone : IsAbove floor ring
  pub is : new ≡ accounts_of old.total
      (with_place old.places a.client (place_for (account_of a.client a.deeds 0 ring) false))

-- The account comes back for its client's next session, if it belongs there: with its receipts
-- above the number that is remembered for its client. Else it is lost.
pub record ComesToPark (was : Recall) (old : Accounts) (a : Account) (new : Accounts)
    : Type 0 where
  pub parked : ComesBack old.places a → IsParked (floor_of was a.client) old a new
  pub lost : (ComesBack old.places a → ⊥) → new ≡ old

-- The account comes back for good, if it belongs there; else it is lost.
pub record IsBack (old : Accounts) (a : Account) (new : Accounts) : Type 0 where
  pub parked : ComesBack old.places a
      → new ≡ accounts_of old.total (with_place old.places a.client (place_for a true))
  pub lost : (ComesBack old.places a → ⊥) → new ≡ old

-- These accounts come back for good, one after another.
pub data AreBack (old : Accounts) : List Account → Accounts → Type 0 where
  none_back : AreBack old [] old
  more_back : (back : List Account) (mid : Accounts) (a : Account) (new : Accounts)
      → AreBack old back mid → IsBack mid a new
      → AreBack old (back ++ a ∷ []) new
