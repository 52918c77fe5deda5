use Rattle.std.proofs.Common.{◌≡◌, ℕ, All, Some}
use Rattle.std.specs.FinMap as map
use Rattle.linda_shared_accounts.specs.Accounts.{receipts_at}
use Rattle.linda_shared_accounts.specs.Compare.{LastIsKept}
use Rattle.linda_shared_accounts.proofs.LastLaws.{EntryIsKept}
use Rattle.linda_shared_accounts.proofs.places.Places.compare_last.Given as goal

-- If the last receipts of the entries that are left are kept, all are; and each entry that is left is its client's place.
abbrev pub invariant-loop-client : goal.invariant-loop-client
invariant-loop-client l =
    (All (EntryIsKept l.state) l._client-iterator → (c : ℕ) → LastIsKept l.state (receipts_at (map.get l.self c)))
    × All (λ e. map.get l.self e.0 ≡ Some e.1) l._client-iterator
