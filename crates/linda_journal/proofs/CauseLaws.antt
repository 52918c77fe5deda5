-- What a fault says of the count of failures.
use Rattle.std.proofs.Common.{◌≡◌, ◌≢◌, ℕ, ◌+◌, ◌<◌, ◌≤◌, ◌⊎◌, ◌↔◌, inl, inr, List, Result, Err, refl, subst, ◌∙◌, arith}
use Rattle.linda_disk.specs.declared.fault.DiskFault.{DiskFault}
use Rattle.linda_disk.specs.declared.fault.DiskFault.TheVariants.{Device, Memory}
use Rattle.linda_disk.specs.Disk.{CountsFailure, TellsFailures}
use Rattle.linda_journal.specs.declared.fault.BankFault.{BankFault}
use Rattle.linda_journal.specs.declared.fault.BankFault.TheVariants as banks
use Rattle.linda_journal.specs.Faults.{fault_of_disk}
use Rattle.linda_journal.specs.Image.{IsFaultOfBank}

-- A disk's fault that was counted as such satisfies `TellsFailures`, as it is and as a bank returns it.
pub fault_told : {T : Type 0} (fault : DiskFault) (old mid new : ℕ) → mid ≡ old → CountsFailure {T = T} (Err fault) mid new → TellsFailures Device fault old new
fault_told Device old mid new same counts = record {
  cause = λ _. let up = counts.device refl in omega (arith, up, same);
  others = λ not. absurd (not refl);
}
fault_told Memory old mid new same counts = record { cause = λ is. cc; others = λ _. counts.memory refl ∙ same }

pub device_told : {T : Type 0} (fault : DiskFault) (old mid new : ℕ) → mid ≡ old
    → CountsFailure {T = T} (Err fault) mid new → TellsFailures banks.Disk (fault_of_disk fault) old new
device_told Device old mid new same counts = record {
  cause = λ _. let up = counts.device refl in omega (arith, up, same);
  others = λ not. absurd (not refl);
}
device_told Memory old mid new same counts = record { cause = λ is. cc; others = λ _. counts.memory refl ∙ same }

-- A fault that is not the device's satisfies it, if the count is unchanged.
pub none_told : (told : BankFault) (old new : ℕ) → told ≢ banks.Disk → new ≡ old → TellsFailures banks.Disk told old new
none_told told old new not same = record { cause = λ is. absurd (not is); others = λ _. same }

-- That memory ran out is no fault of the device, and a full bank is another fault.
pub memory_fails_none : banks.Memory ≢ banks.Disk
memory_fails_none is = cc

pub memory_is_not_full : banks.Memory ≢ banks.Full
memory_is_not_full is = cc

-- No fault of a device or of memory says that a bank is full.
pub device_fills_none : {T : Type 0} (r : Result T BankFault) (fault : DiskFault) → r ≡ Err (fault_of_disk fault) → r ≡ Err banks.Full → ⊥
device_fills_none r Device same is = cc
device_fills_none r Memory same is = cc

pub no_memory_fills_none : {T : Type 0} (r : Result T BankFault) → r ≡ Err banks.Memory → r ≡ Err banks.Full → ⊥
no_memory_fills_none r same is = cc

-- With P, and within the limit, it is not so that P fails or the limit is passed.
pub is_admitted : (P : Type 0) (limit end told long : ℕ) → P → told ≡ long → end + told < limit → (P → ⊥) ⊎ (limit ≤ end + long) → ⊥
is_admitted P limit end told long fits same room (inl none) = none fits
is_admitted P limit end told long fits same room (inr past) = omega (arith, same, room, past)

-- What the bytes of a bank are at fault for is no fault of the device.
pub bytes_fail_none : (bytes : List ℕ) (fault : BankFault) → IsFaultOfBank bytes fault → fault ≢ banks.Disk
bytes_fail_none bytes fault is same = subst (IsFaultOfBank bytes) same is

-- What is within the limit is not past it.
pub within_not_past : (limit long : ℕ) → long ≤ limit → limit < long → ⊥
within_not_past limit long within past = omega (arith, within, past)

-- A fault of a bank is the device's exactly if the disk's is.
pub disk_failed : (fault : DiskFault) → (fault_of_disk fault ≡ banks.Disk) ↔ (fault ≡ Device)
disk_failed Device = ((λ _. refl), (λ _. refl))
disk_failed Memory = ((λ is. cc), (λ is. cc))
