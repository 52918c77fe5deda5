-- What runs of device calls come to, one after another.
use Rattle.std.proofs.Common.{◌≡◌, ◌↔◌, Result, Ok, Err, OnOk, IfErr, refl, ◌∙◌}
use Rattle.linda_disk.specs.declared.disk.Disk.{Ghosts}
use Rattle.linda_disk.specs.Disk.{TellsFailures}
use Rattle.linda_disk.specs.Runs.{Law, IsDone, IsBroken, Runs}
use Rattle.linda_disk.proofs.CauseLaws.{tells_on, renamed}

-- What follows of two facts of a call that is done.
pub on_both : {T E : Type 0} (P Q R : Type 0) (r : Result T E) → OnOk r P → OnOk r Q → (P → Q → R) → OnOk r R
on_both P Q R (Ok x) p q both = both p q
on_both P Q R (Err fault) p q both = tt

module _ {D : Type 0} (g : Ghosts D) where
  -- The same run by another law, and with another fault that is the device's exactly if this one is.
  pub done_by : {law other count counted : Law} (old new : D) → IsDone g law count old new
      → (g.honest old → law (g.view old) (g.view new) → other (g.view old) (g.view new))
      → (g.honest old → count (g.view old) (g.view new) → counted (g.view old) (g.view new)) → IsDone g other counted old new
  done_by old new run law_by count_by = record {
    honest = run.honest;
    steady = run.steady;
    any_moment = λ h. law_by h (run.any_moment h);
    clock = λ h. count_by h (run.clock h);
  }

  pub broken_by : {F G : Type 0} {law other : Law} (device fault : F) (failed told : G) (old new : D)
      → IsBroken g law device fault old new → (told ≡ failed) ↔ (fault ≡ device)
      → (g.honest old → law (g.view old) (g.view new) → other (g.view old) (g.view new)) → IsBroken g other failed told old new
  broken_by device fault failed told old new run same law_by = record {
    honest = run.honest;
    cause = renamed failed told device fault (g.failures old) (g.failures new) same run.cause;
    any_moment = λ h. law_by h (run.any_moment h);
  }

  pub runs_by : {T F : Type 0} (law other count : Law) (device : F) (old : D) (r : Result T F) (new : D) → Runs g law count device old r new
      → (g.honest old → law (g.view old) (g.view new) → other (g.view old) (g.view new)) → Runs g other count device old r new
  runs_by law other count device old (Ok x) new run law_by = done_by old new run law_by (λ h c. c)
  runs_by law other count device old (Err fault) new run law_by = broken_by device fault device fault old new run ((λ is. is), (λ is. is)) law_by

  -- No call was made.
  pub untouched : {F : Type 0} (law : Law) (device fault : F) (disk : D) → (fault ≡ device → ⊥)
      → (g.honest disk → law (g.view disk) (g.view disk)) → IsBroken g law device fault disk disk
  untouched law device fault disk not still = record {
    honest = ((λ h. h), (λ h. h));
    cause = record { cause = λ is. absurd (not is); others = λ _. refl };
    any_moment = still;
  }

  -- A run after one that was done.
  pub done_on : {one two law counts counted count : Law} (old mid new : D) → IsDone g one counts old mid → IsDone g two counted mid new
      → (g.honest old → g.honest mid → one (g.view old) (g.view mid) → two (g.view mid) (g.view new) → law (g.view old) (g.view new))
      → (g.honest old → counts (g.view old) (g.view mid) → counted (g.view mid) (g.view new) → count (g.view old) (g.view new)) → IsDone g law count old new
  done_on old mid new first second law_by count_by = record {
    honest = ((λ h. second.honest.0 (first.honest.0 h)), (λ h. first.honest.1 (second.honest.1 h)));
    steady = second.steady ∙ first.steady;
    any_moment = λ h. let still = first.honest.0 h in law_by h still (first.any_moment h) (second.any_moment still);
    clock = λ h. count_by h (first.clock h) (second.clock (first.honest.0 h));
  }

  pub broken_on : {F : Type 0} {one two law counts : Law} (device fault : F) (old mid new : D)
      → IsDone g one counts old mid → IsBroken g two device fault mid new
      → (g.honest old → g.honest mid → one (g.view old) (g.view mid) → two (g.view mid) (g.view new) → law (g.view old) (g.view new))
      → IsBroken g law device fault old new
  broken_on device fault old mid new first second law_by = record {
    honest = ((λ h. second.honest.0 (first.honest.0 h)), (λ h. first.honest.1 (second.honest.1 h)));
    cause = tells_on device fault (g.failures old) (g.failures mid) (g.failures new) first.steady second.cause;
    any_moment = λ h. let still = first.honest.0 h in law_by h still (first.any_moment h) (second.any_moment still);
  }

  pub runs_on : {T F : Type 0} {one counts : Law} (two law counted count : Law) (device : F) (old mid : D) (r : Result T F) (new : D)
      → IsDone g one counts old mid → Runs g two counted device mid r new
      → (g.honest old → g.honest mid → one (g.view old) (g.view mid) → two (g.view mid) (g.view new) → law (g.view old) (g.view new))
      → (g.honest old → counts (g.view old) (g.view mid) → counted (g.view mid) (g.view new) → count (g.view old) (g.view new))
      → Runs g law count device old r new
  runs_on two law counted count device old mid (Ok x) new first second law_by count_by = done_on old mid new first second law_by count_by
  runs_on two law counted count device old mid (Err fault) new first second law_by count_by = broken_on device fault old mid new first second law_by

  -- What a run says, no matter what it came to.
  pub honest_of : {T F : Type 0} (law count : Law) (device : F) (old : D) (r : Result T F) (new : D)
      → Runs g law count device old r new → g.honest old ↔ g.honest new
  honest_of law count device old (Ok x) new run = run.honest
  honest_of law count device old (Err fault) new run = run.honest

  pub moment_of : {T F : Type 0} (law count : Law) (device : F) (old : D) (r : Result T F) (new : D)
      → Runs g law count device old r new → g.honest old → law (g.view old) (g.view new)
  moment_of law count device old (Ok x) new run honest = run.any_moment honest
  moment_of law count device old (Err fault) new run honest = run.any_moment honest

  pub cause_of : {T F : Type 0} (law count : Law) (device : F) (old : D) (r : Result T F) (new : D)
      → Runs g law count device old r new → IfErr r (λ fault. TellsFailures device fault (g.failures old) (g.failures new))
  cause_of law count device old (Ok x) new run = tt
  cause_of law count device old (Err fault) new run = run.cause

  pub clock_of : {T F : Type 0} (law count : Law) (device : F) (old : D) (r : Result T F) (new : D)
      → Runs g law count device old r new → g.honest old → OnOk r (count (g.view old) (g.view new))
  clock_of law count device old (Ok x) new run honest = run.clock honest
  clock_of law count device old (Err fault) new run honest = tt
