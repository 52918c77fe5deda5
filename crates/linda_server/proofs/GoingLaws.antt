-- How a life goes on by a call that is built on another one.
use Rattle.std.proofs.Common.{◌≡◌, ◌≢◌, ◌⊎◌, inl, inr, ◌↔◌, true, false, refl, Err, IsErrOf}
use Rattle.std.proofs.lemmas.Bool.{cases_Bool}
use Rattle.linda_disk.specs.declared.disk.Disk.{Ghosts}
use Rattle.linda_server.specs.declared.durable.Durable.{Durable}
use Rattle.linda_server.specs.declared.fault.ServeFault.{ServeFault}
use Rattle.linda_server.specs.declared.fault.ServeFault.TheVariants as faults
use Rattle.linda_server.specs.Lives.{Fall}

module _ {D : Type 0} {g : Ghosts D} (old new : Durable D g) where
  -- Nothing changed, or it went down.
  abbrev pub How : Type 0
  How = (new ≡ old) ⊎ ((old.down ≡ false) × (new.down ≡ true) × Fall old new)

  went : (old.down ≡ true → new ≡ old) → new.down ≡ true → (old.down ≡ false → new.down ≡ true → Fall old new) → How
  went stays down fall =
      elim (cases_Bool old.down) [
        | inl was ↦ inl (stays was)
        | inr up ↦ inr (up, down, fall up down)
      ]

  -- How the server went, as the fault of a call says.
  pub how_of : {A : Type 0} (fault : ServeFault) → (IsErrOf {T = A} (Err fault) faults.Full → new ≡ old)
      → (IsErrOf {T = A} (Err fault) faults.Down ↔ (old.down ≡ true)) → (old.down ≡ true → new ≡ old)
      → (IsErrOf {T = A} (Err fault) faults.Disk → new.down ≡ true) × (IsErrOf {T = A} (Err fault) faults.Memory → new.down ≡ true)
      → (fault ≢ faults.Full → old.down ≡ false → new.down ≡ true → Fall old new) → How
  how_of faults.Down full was_down stays goes_down fall = inl (stays (was_down.0 refl))
  how_of faults.Full full was_down stays goes_down fall = inl (full refl)
  how_of faults.Disk full was_down stays goes_down fall = went stays (goes_down.0 refl) (fall (λ e. cc))
  how_of faults.Memory full was_down stays goes_down fall = went stays (goes_down.1 refl) (fall (λ e. cc))

-- What holds unless the fault is `Full` holds of each other fault.
pub other : {A : Type 0} (fault : ServeFault) (P : Type 0) → fault ≢ faults.Full → IsErrOf {T = A} (Err fault) faults.Full ⊎ P → P
other fault P not_full (inl full) = absurd (not_full (cc full))
other fault P not_full (inr p) = p
