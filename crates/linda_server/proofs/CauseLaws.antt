-- What a fault says of the counts of failures, of one disk and of two.
use Rattle.std.proofs.Common.{◌≡◌, ◌≢◌, ℕ, ◌+◌, ◌<◌, ◌↔◌, inl, inr, Result, Err, refl, subst, ◌∙◌, arith}
use Rattle.linda_disk.specs.declared.fault.DiskFault.{DiskFault}
use Rattle.linda_disk.specs.declared.fault.DiskFault.TheVariants.{Device, Memory}
use Rattle.linda_disk.specs.Disk.{CountsFailure, TellsFailures, TellsFailuresOfTwo}
use Rattle.linda_snap.specs.declared.choice.ChoiceFault.{ChoiceFault}
use Rattle.linda_snap.specs.declared.choice.ChoiceFault.TheVariants as choices
use Rattle.linda_server.specs.declared.fault.OpenFault.{OpenFault}
use Rattle.linda_server.specs.declared.fault.OpenFault.TheVariants as faults
use Rattle.linda_server.specs.Opening.{fault_of_choice}

-- A fault satisfies `TellsFailures` if both it and the disk's fault are the device's, or neither is.
pub counted : {T F : Type 0} (device told : F) (fault : DiskFault) (r : Result T DiskFault) (old new : ℕ)
    → r ≡ Err fault → (told ≡ device) ↔ (fault ≡ Device) → CountsFailure r old new
    → TellsFailures device told old new
counted device told Device r old new is same counts = record {
  cause = λ _. let up = counts.device is in omega (arith, up);
  others = λ not. absurd (not (same.1 refl));
}
counted device told Memory r old new is same counts = record {
  cause = λ failed. let not : Memory ≡ Device = same.0 failed in (cc);
  others = λ _. counts.memory is;
}

-- If a fault satisfies it for one disk's count, so it does for the sum with another count that is unchanged.
pub beside_told : {F : Type 0} (device told : F) (used used_new other other_new : ℕ) → used_new ≡ used
    → TellsFailures device told other other_new → TellsFailures device told (used + other) (used_new + other_new)
beside_told device told used used_new other other_new same tells = record {
  cause = λ is. let up = tells.cause is in omega (arith, up, same);
  others = λ not. let stays = tells.others not in omega (arith, stays, same);
}

-- If a fault satisfies it for one disk, it satisfies `TellsFailuresOfTwo`, if the other one's count is unchanged.
pub left_told : {F : Type 0} (device told : F) (left mid left_new right right_new : ℕ) → mid ≡ left → TellsFailures device told mid left_new → right_new ≡ right
    → TellsFailuresOfTwo device told left right left_new right_new
left_told device told left mid left_new right right_new same tells other = record {
  cause = λ is. inl (subst (λ n. n < left_new) same (tells.cause is));
  others = λ not. (tells.others not ∙ same, other);
}

pub right_told : {F : Type 0} (device told : F) (left left_new right mid right_new : ℕ) → left_new ≡ left
    → mid ≡ right → TellsFailures device told mid right_new
    → TellsFailuresOfTwo device told left right left_new right_new
right_told device told left left_new right mid right_new other same tells = record {
  cause = λ is. inr (subst (λ n. n < right_new) same (tells.cause is));
  others = λ not. (other, tells.others not ∙ same);
}

-- A fault that is not the device's satisfies `TellsFailuresOfTwo`, if both counts are unchanged.
pub none_told : {F : Type 0} (device told : F) (left left_new right right_new : ℕ) → told ≢ device
    → left_new ≡ left → right_new ≡ right → TellsFailuresOfTwo device told left right left_new right_new
none_told device told left left_new right right_new not same other = record { cause = λ is. absurd (not is); others = λ _. (same, other) }

pub memory_fails_none : faults.Memory ≢ faults.Disk
memory_fails_none is = cc

pub range_fails_none : faults.LimitRange ≢ faults.Disk
range_fails_none is = cc

-- If a fault satisfies it, so does another one that is the device's exactly if that one is.
pub two_renamed : {F G : Type 0} (device told : F) (failed fault : G) (left right left_new right_new : ℕ)
    → (told ≡ device) ↔ (fault ≡ failed) → TellsFailuresOfTwo failed fault left right left_new right_new
    → TellsFailuresOfTwo device told left right left_new right_new
two_renamed device told failed fault left right left_new right_new same tells = record {
  cause = λ is. tells.cause (same.0 is);
  others = λ not. tells.others (λ is. not (same.1 is));
}

-- A server's fault is the device's exactly if that of the choice is.
pub choice_failed : (told : OpenFault) (fault : ChoiceFault) → told ≡ fault_of_choice fault → (told ≡ faults.Disk) ↔ (fault ≡ choices.Disk)
choice_failed told choices.NoStore same = ((λ is. cc), (λ is. cc))
choice_failed told (choices.Damaged right offset) same = ((λ is. cc), (λ is. cc))
choice_failed told choices.Disk same = ((λ is. refl), (λ is. same))
choice_failed told choices.Memory same = ((λ is. cc), (λ is. cc))
