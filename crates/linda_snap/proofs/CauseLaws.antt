-- What a fault says of the counts of failures, of one disk and of two.
use Rattle.std.proofs.Common.{◌≡◌, ◌≢◌, ℕ, ◌<◌, ◌≤◌, ◌↔◌, inl, inr, Bool, List, Err, refl, subst, arith}
use Rattle.linda_tuple.specs.declared.form.Form.{Form}
use Rattle.linda_disk.specs.declared.fault.DiskFault.{DiskFault}
use Rattle.linda_disk.specs.declared.fault.DiskFault.TheVariants.{Device, Memory}
use Rattle.linda_disk.specs.Disk.{CountsFailure, TellsFailures, TellsFailuresOfTwo}
use Rattle.linda_journal.specs.declared.record.Record.{Record}
use Rattle.linda_journal.specs.declared.fault.BankFault.{BankFault}
use Rattle.linda_journal.specs.declared.fault.BankFault.TheVariants as banks
use Rattle.linda_snap.specs.declared.choice.ChoiceFault.{ChoiceFault}
use Rattle.linda_snap.specs.declared.choice.ChoiceFault.TheVariants as choices
use Rattle.linda_snap.specs.declared.renewal.SwitchFault.{SwitchFault}
use Rattle.linda_snap.specs.declared.renewal.SwitchFault.TheVariants as switches
use Rattle.linda_snap.specs.Switch.{fault_of_disk}
use Rattle.linda_snap.specs.Choice.{fault_of_device, fault_on, IsUnrecovered}

-- A disk's fault, reported as what it is, agrees with the count of failures.
pub device_told : {T : Type 0} (fault : DiskFault) (old new : ℕ) → CountsFailure {T = T} (Err fault) old new
    → TellsFailures choices.Disk (fault_of_device fault) old new
device_told Device old new counts = record {
  cause = λ _. let up = counts.device refl in omega (arith, up);
  others = λ not. absurd (not refl);
}
device_told Memory old new counts = record { cause = λ is. cc; others = λ _. counts.memory refl }

-- A fault that is not the device's agrees with a count that stayed.
pub none_told : {F : Type 0} (device told : F) (old new : ℕ) → told ≢ device → new ≡ old → TellsFailures device told old new
none_told device told old new not same = record { cause = λ is. absurd (not is); others = λ _. same }

-- If the fault agrees with one disk's count and the other one's count stayed, it agrees with the counts of both.
pub left_told : {F : Type 0} (device told : F) (left left_new right right_new : ℕ)
    → TellsFailures device told left left_new → right_new ≡ right → TellsFailuresOfTwo device told left right left_new right_new
left_told device told left left_new right right_new tells other = record {
  cause = λ is. inl (tells.cause is);
  others = λ not. (tells.others not, other);
}

pub right_told : {F : Type 0} (device told : F) (left left_new right right_new : ℕ) → left_new ≡ left
    → TellsFailures device told right right_new → TellsFailuresOfTwo device told left right left_new right_new
right_told device told left left_new right right_new other tells = record {
  cause = λ is. inr (tells.cause is);
  others = λ not. (other, tells.others not);
}

-- The fault that is reported for the bank on a side is the device's exactly if the bank's fault is.
pub side_failed : (right : Bool) (fault : BankFault) (told : ChoiceFault) → told ≡ fault_on right fault → (told ≡ choices.Disk) ↔ (fault ≡ banks.Disk)
side_failed right banks.Spent told same = ((λ is. cc), (λ is. cc))
side_failed right banks.Full told same = ((λ is. cc), (λ is. cc))
side_failed right banks.NoBank told same = ((λ is. cc), (λ is. cc))
side_failed right (banks.Damaged offset) told same = ((λ is. cc), (λ is. cc))
side_failed right banks.Disk told same = ((λ is. refl), (λ is. same))
side_failed right banks.Memory told same = ((λ is. cc), (λ is. cc))

-- What is not recovered from a body and records is no fault of the device.
pub unrecovered_fails_none : (form : Form) (body : List ℕ) (records : List Record) (fault : BankFault)
    → IsUnrecovered form body records fault → fault ≢ banks.Disk
unrecovered_fails_none form body records fault is same = subst (IsUnrecovered form body records) same is

-- The fault of a switch is the device's exactly if the disk's fault is; and it never says that a bank is full or that no generation is left.
pub switch_failed : (fault : DiskFault) (told : SwitchFault) → told ≡ fault_of_disk fault → (told ≡ switches.Disk) ↔ (fault ≡ Device)
switch_failed Device told same = ((λ is. refl), (λ is. same))
switch_failed Memory told same = ((λ is. cc), (λ is. cc))

pub fills_none : (fault : DiskFault) (told : SwitchFault) → told ≡ fault_of_disk fault → told ≢ switches.BankFull
fills_none Device told same is = cc
fills_none Memory told same is = cc

pub spends_none : (fault : DiskFault) (told : SwitchFault) → told ≡ fault_of_disk fault → told ≢ switches.GenerationsSpent
spends_none Device told same is = cc
spends_none Memory told same is = cc

-- What has room is not too long.
pub not_too_long : (limit told long : ℕ) → told ≡ limit → long ≤ told → limit < long → ⊥
not_too_long limit told long same room less = omega (arith, same, room, less)
