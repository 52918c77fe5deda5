-- Crashes of a disk that becomes a new bank, and what they may leave.
use Rattle.std.specs.Prelude.{◌≡◌, ◌<◌, ◌^◌, ℕ, ◌⊎◌, List, ◌∷◌, ◌++◌, [], length}
use Rattle.linda_disk.specs.declared.fault.DiskFault.{DiskFault}
use Rattle.linda_disk.specs.declared.fault.DiskFault.TheVariants as device
use Rattle.linda_store_state.specs.DeedFormat.{written}
use Rattle.linda_tuple.specs.declared.form.Form.{Form}
use Rattle.linda_store_state.specs.State.{State}
use Rattle.linda_disk.specs.View.{View}
use Rattle.linda_disk.specs.Run.{LeavesOnly}
use Rattle.linda_disk.specs.Runs.{Law}
use Rattle.linda_journal.specs.declared.kinds.TheConstants.{CLOSED}
use Rattle.linda_journal.specs.Bank.{IsNoneOrNew, behind_gate}
use Rattle.linda_journal.specs.Renewal.{IsFilled}
use Rattle.linda_snap.specs.declared.bank_writer.BankWriter.{BankWriter}
use Rattle.linda_snap.specs.Stands.{IsUp, StandsBeside}
use Rattle.linda_snap.specs.BankWriter.{Completes}
use Rattle.linda_snap.specs.declared.renewal.SwitchFault.{SwitchFault}
use Rattle.linda_snap.specs.declared.renewal.SwitchFault.TheVariants.{Disk, Memory}

-- The old bytes, or no bank, or the whole new one, in the form of new banks.
abbrev pub IsOldNoneOrNew : List ℕ → ℕ → List ℕ → List ℕ → Type 0
IsOldNoneOrNew old generation body file = (file ≡ old) ⊎ IsNoneOrNew written generation body file

-- What a disk's fault is returned as.
abbrev pub fault_of_disk : DiskFault → SwitchFault
fault_of_disk device.Device = Disk
fault_of_disk device.Memory = Memory

-- ---- what runs of device calls leave of the disk that is not in use

-- What was there, no bank, or the new one that these bytes are.
abbrev pub renews : ℕ → List ℕ → Law
renews generation bytes old new = (body : List ℕ) → length body < 2 ^ 32
    → bytes ≡ behind_gate written generation body ++ CLOSED ∷ []
    → LeavesOnly old new (IsOldNoneOrNew old.seen generation body)

-- What represents the state beside the bank in use, if that one is honest and represents it.
abbrev pub switches : Type 0 → Form → ℕ → ℕ → View → State → Law
switches honest form generation end used st old new = honest → IsUp form generation end used old st
    → LeavesOnly old new (StandsBeside used.seen st)

-- The same, if with these last bytes a new bank is there for the state.
abbrev pub takes_over : Type 0 → Form → ℕ → ℕ → View → BankWriter → ℕ → List ℕ → Law
takes_over honest form generation end used next at bytes old new = (front : List ℕ) (st : State)
    → honest → IsUp form generation end used old st → IsFilled front at old
    → Completes next front bytes st → LeavesOnly old new (StandsBeside used.seen st)
