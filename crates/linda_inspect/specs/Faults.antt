-- Faults of two banks that no server opens.
use Rattle.std.specs.Prelude.{◌≡◌, ◌⊎◌, ℕ, List}
use Rattle.linda_store_state.specs.State.{State}
use Rattle.linda_disk.specs.declared.fault.DiskFault.{DiskFault}
use Rattle.linda_disk.specs.declared.fault.DiskFault.TheVariants as disks
use Rattle.linda_snap.specs.declared.choice.ChoiceFault.{ChoiceFault}
use Rattle.linda_snap.specs.declared.choice.ChoiceFault.TheVariants as choices
use Rattle.linda_snap.specs.Choice.{IsFaultOfBoth}
use Rattle.linda_snap.specs.Stands.{Stands}
use Rattle.linda_inspect.specs.declared.fault.InspectFault.{InspectFault}
use Rattle.linda_inspect.specs.declared.fault.InspectFault.TheVariants as faults
use Rattle.linda_inspect.specs.declared.fault.OutputFault.{OutputFault}
use Rattle.linda_inspect.specs.declared.fault.OutputFault.TheVariants as outputs

-- The two banks represent some state.
abbrev pub MayStand : List ℕ → List ℕ → Type 0
MayStand left right = (st : State) × Stands left right st

-- The fault says nothing of the banks: memory ran out, or the output failed; or a disk in memory
-- failed.
abbrev pub IsOfOutput : InspectFault → Type 0
IsOfOutput fault = (fault ≡ faults.Memory) ⊎ ((fault ≡ faults.Io) ⊎ (fault ≡ faults.Disk))

-- What a fault says of the bytes of two banks.
abbrev pub IsFaultOf : List ℕ → List ℕ → InspectFault → Type 0
IsFaultOf left right faults.NoStore = IsFaultOfBoth left right choices.NoStore
IsFaultOf left right (faults.Damaged side offset) =
    IsFaultOfBoth left right (choices.Damaged side offset)
IsFaultOf left right faults.Disk = Unit {0}
IsFaultOf left right faults.Memory = Unit {0}
IsFaultOf left right faults.Io = Unit {0}

abbrev pub fault_of_choice : ChoiceFault → InspectFault
fault_of_choice choices.NoStore = faults.NoStore
fault_of_choice (choices.Damaged side offset) = faults.Damaged side offset
fault_of_choice choices.Disk = faults.Disk
fault_of_choice choices.Memory = faults.Memory

abbrev pub fault_of_disk : DiskFault → InspectFault
fault_of_disk disks.Device = faults.Disk
fault_of_disk disks.Memory = faults.Memory

abbrev pub fault_of_output : OutputFault → InspectFault
fault_of_output outputs.Memory = faults.Memory
fault_of_output outputs.Io = faults.Io
