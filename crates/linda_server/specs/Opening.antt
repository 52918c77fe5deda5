-- Openings that fail, and why.
use Rattle.std.specs.Prelude.{ℕ, List}
use Rattle.linda_snap.specs.declared.choice.ChoiceFault.{ChoiceFault}
use Rattle.linda_snap.specs.declared.choice.ChoiceFault.TheVariants as choices
use Rattle.linda_snap.specs.Choice.{IsFaultOfBoth}
use Rattle.linda_server.specs.declared.fault.OpenFault.{OpenFault}
use Rattle.linda_server.specs.declared.fault.OpenFault.TheVariants.{NotEmpty, LimitRange, NoStore}
use Rattle.linda_server.specs.declared.fault.OpenFault.TheVariants.{Damaged, Disk, Memory}
use Rattle.linda_server.specs.Calls.{IsLimit}

-- What is returned if no bank was chosen.
abbrev pub fault_of_choice : ChoiceFault → OpenFault
fault_of_choice choices.NoStore = NoStore
fault_of_choice (choices.Damaged right offset) = Damaged right offset
fault_of_choice choices.Disk = Disk
fault_of_choice choices.Memory = Memory

-- What a fault says of two files and a limit.
abbrev pub IsOpenFault : List ℕ → List ℕ → ℕ → OpenFault → Type 0
IsOpenFault left right limit NotEmpty = ⊥
IsOpenFault left right limit LimitRange = IsLimit limit → ⊥
IsOpenFault left right limit NoStore = IsFaultOfBoth left right choices.NoStore
IsOpenFault left right limit (Damaged side offset) =
    IsFaultOfBoth left right (choices.Damaged side offset)
IsOpenFault left right limit Disk = Unit {0}
IsOpenFault left right limit Memory = Unit {0}
