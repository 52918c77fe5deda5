-- What a fault of a disk says of the count of failures, and what it says under another name.
use Rattle.std.proofs.Common.{◌≡◌, ℕ, ◌↔◌, Err, refl, subst, ◌∙◌, arith}
use Rattle.linda_disk.specs.declared.fault.DiskFault.{DiskFault}
use Rattle.linda_disk.specs.declared.fault.DiskFault.TheVariants.{Device, Memory}
use Rattle.linda_disk.specs.Disk.{CountsFailure, TellsFailures}

-- A fault that is counted from a count that did not change is counted from the beginning, no matter what else the call would return.
pub fails_on : {T U : Type 0} (fault : DiskFault) (old mid new : ℕ) → mid ≡ old
    → CountsFailure {T = T} (Err fault) mid new → CountsFailure {T = U} (Err fault) old new
fails_on Device old mid new same counts = record {
  ok = tt;
  memory = λ is. cc;
  device = λ _. let up = counts.device refl in omega (arith, up, same);
}
fails_on Memory old mid new same counts = record {
  ok = tt;
  memory = λ _. counts.memory refl ∙ same;
  device = λ is. cc;
}

-- If a fault satisfies `TellsFailures`, so does another one that is the device's exactly if that one is.
pub renamed : {F G : Type 0} (device told : F) (failed fault : G) (old new : ℕ) → (told ≡ device) ↔ (fault ≡ failed)
    → TellsFailures failed fault old new → TellsFailures device told old new
renamed device told failed fault old new same tells = record {
  cause = λ is. tells.cause (same.0 is);
  others = λ not. tells.others (λ is. not (same.1 is));
}

-- A fault that satisfies it from a count satisfies it from an earlier one, if that did not change.
pub tells_on : {F : Type 0} (device told : F) (old mid new : ℕ) → mid ≡ old → TellsFailures device told mid new → TellsFailures device told old new
tells_on device told old mid new same tells = subst (λ n. TellsFailures device told n new) same tells
