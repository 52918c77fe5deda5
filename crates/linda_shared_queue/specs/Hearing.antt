-- Hearing of an answer by an account.
use Rattle.std.specs.Prelude.{◌≡◌, ◌⊎◌, Option, Some, None, Result, Ok, Err, IsOk}
use Rattle.linda_wire.specs.declared.message.Message.{Message}
use Rattle.linda_store_step.specs.Reported.{IsDeedOf}
use Rattle.linda_shared_accounts.specs.declared.receipt.Receipt.{Receipt}
use Rattle.linda_shared_accounts.specs.declared.effect.Effect.{Effect}
use Rattle.linda_shared_accounts.specs.declared.effect.Effect.TheVariants as tidings
use Rattle.linda_shared_accounts.specs.declared.fault.SharedFault.{SharedFault}
use Rattle.linda_shared_accounts.specs.declared.fault.SharedFault.TheVariants as faults
use Rattle.linda_shared_accounts.specs.Account.{Account}
use Rattle.linda_shared_accounts.specs.Receipts.{number_in}
use Rattle.linda_shared_accounts.specs.Ring.{IsNext}

-- the fault of a whole batch: never that of one receipt
abbrev pub plain : SharedFault → SharedFault
plain faults.Down = faults.Down
plain faults.Full = faults.Full
plain faults.SeatMissing = faults.SeatMissing
plain (faults.Receipt client number) = faults.Down
plain (faults.Stuck client) = faults.Stuck client
plain faults.NoThread = faults.NoThread
plain faults.Memory = faults.Memory

-- The message asks for the deed of the receipt, which is the next of the ring.
abbrev pub IsDue : Account → Message → Receipt → Type 0
IsDue a m r = IsDeedOf a.client m r.deed × IsNext a.client a.ring r

-- A deed comes to `good` if its receipt is due, and else to the fault of that receipt.
abbrev pub HearsDeed : {A : Type 0} → Account → Message → Receipt → Result A SharedFault
    → Result A SharedFault → Type 0
HearsDeed a m r good heard =
    ((heard ≡ good) × IsDue a m r)
    ⊎ ((heard ≡ Err (faults.Receipt a.client (number_in r))) × (IsDue a m r → ⊥))

-- A deed is its receipt, and no deed is none, unless the answer was lost, which is `Down`; a fault
-- is that fault.
abbrev pub IsHeard : Account → Message → Effect Receipt → Option (Effect Receipt)
    → Result (Option Receipt) SharedFault → Type 0
IsHeard a m (tidings.Deed r) None heard = HearsDeed a m r (Err faults.Down) heard
IsHeard a m (tidings.Deed r) (Some told) heard = HearsDeed a m r (Ok (Some r)) heard
IsHeard a m tidings.NoDeed None heard = heard ≡ Err faults.Down
IsHeard a m tidings.NoDeed (Some told) heard = heard ≡ Ok None
IsHeard a m (tidings.Failed fault) copy heard = heard ≡ Err (plain fault)

-- The same of an answer that has no copy, and so cannot be lost.
abbrev pub IsAnswered : Account → Message → Effect Receipt → Result (Unit {0}) SharedFault → Type 0
IsAnswered a m (tidings.Deed r) heard = HearsDeed a m r (Ok tt) heard
IsAnswered a m tidings.NoDeed heard = IsOk heard
IsAnswered a m (tidings.Failed fault) heard = heard ≡ Err (plain fault)
