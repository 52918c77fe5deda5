-- A snapshot of a server that sessions share.
use Rattle.std.specs.Prelude.{◌≡◌, ◌⊎◌, true, false, Result, IfErr, OnOk, OnErr, IsErrOf}
use Rattle.linda_disk.specs.declared.disk.Disk.{Ghosts}
use Rattle.linda_server.specs.declared.durable.Durable.{Durable}
use Rattle.linda_server.specs.Handled.{HasNoNextBank}
use Rattle.linda_server.specs.Switch.{IsSwitched}
use Rattle.linda_shared_accounts.specs.declared.fault.SharedFault.{SharedFault}
use Rattle.linda_shared_accounts.specs.declared.fault.SharedFault.TheVariants as faults
use Rattle.linda_shared_held.specs.Kept.{IsKnownStill}

module _ {D : Type 0} {g : Ghosts D} where
  -- The server takes a snapshot (`snapshot`).
  pub record TakesSnapshot (old : Durable D g) (result : Result (Unit {0}) SharedFault)
      (new : Durable D g) : Type 0 where
    pub store : new.store ≡ old.store
    pub limit : new.limit ≡ old.limit
    -- At Ok the other disk holds the bank in use, of the next generation and without a record.
    pub switched : OnOk result (IsSwitched old.disks new.disks)
    -- It is Full exactly if there is no next bank for the state, and Down before all, and exactly
    -- if the server is down.
    pub full : IsErrOf result faults.Full → (new ≡ old) × HasNoNextBank old
    pub room : OnOk result (HasNoNextBank old → ⊥)
    pub up : OnOk result ((old.down ≡ false) × (new.down ≡ false))
    pub down : IsErrOf result faults.Down → new.down ≡ true
    pub first : old.down ≡ true → IsErrOf result faults.Down × (new ≡ old)
    pub fault : IfErr result (λ fault. (fault ≡ faults.Full) ⊎ (fault ≡ faults.Down))
    -- What is known of a server that took none is as before.
    pub still : OnErr result (IsKnownStill old new)

  -- The server takes a step of a snapshot, or makes room (`begin_snapshot`, `continue_snapshot`,
  -- `preallocate`).
  pub record TakesStep {T : Type 0} (old : Durable D g) (result : Result T SharedFault)
      (new : Durable D g) : Type 0 where
    pub store : new.store ≡ old.store
    pub limit : new.limit ≡ old.limit
    pub up : OnOk result ((old.down ≡ false) × (new.down ≡ false))
    -- It is Down before all, and exactly if the server is down.
    pub down : IsErrOf result faults.Down → new.down ≡ true
    pub first : old.down ≡ true → IsErrOf result faults.Down × (new ≡ old)
    pub fault : IfErr result (λ fault. (fault ≡ faults.Full) ⊎ (fault ≡ faults.Down))
    -- What is known of a server that took none is as before.
    pub still : OnErr result (IsKnownStill old new)
