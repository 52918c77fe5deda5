-- Seats that went to work and came back, as contracts see them.
use Rattle.std.specs.Prelude.{◌≡◌, ◌≤◌, ℕ, List, [], ◌∷◌, Result, Ok, Err, nat_lt, if◌then◌else◌}
use Rattle.linda_shared_accounts.specs.Account.{Account}
use Rattle.linda_shared_accounts.specs.declared.fault.SharedFault.{SharedFault}
use Rattle.linda_shared_accounts.specs.declared.fault.SharedFault.TheVariants as faults

-- It is the same client's, and no fewer deeds were reported to it.
pub record HasWorked (before after : Account) : Type 0 where
  pub client : after.client ≡ before.client
  pub deeds : before.deeds ≤ after.deeds

-- Each goes on, by position.
abbrev pub AllHaveWorked : List Account → List Account → Type 0
AllHaveWorked [] [] = Unit {0}
AllHaveWorked [] (b ∷ bs) = ⊥
AllHaveWorked (a ∷ xs) [] = ⊥
AllHaveWorked (a ∷ xs) (b ∷ bs) = HasWorked a b × AllHaveWorked xs bs

-- the position of a fault among all
abbrev pub rank : SharedFault → ℕ
rank faults.Down = 0
rank faults.Full = 1
rank faults.SeatMissing = 2
rank (faults.Receipt client number) = 3
rank (faults.Stuck client) = 4
rank faults.NoThread = 5
rank faults.Memory = 6

-- of two ends the fault that comes first among all, if there is one; of two with the same position
-- the earlier one
abbrev pub first_of : {A : Type 0} → Result A SharedFault → Result A SharedFault
    → Result A SharedFault
first_of (Ok a) other = other
first_of (Err fault) (Ok a) = Err fault
first_of (Err a) (Err b) = if nat_lt (rank b) (rank a) then Err b else Err a
