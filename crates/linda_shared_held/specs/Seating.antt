-- A client is greeted, and its seat goes out.
use Rattle.std.specs.Prelude.{◌≡◌, ◌≢◌, ◌⊎◌, ℕ, true, false, Result, IfErr, OnOk, IsErrOf}
use Rattle.std.specs.FinMap as map
use Rattle.linda_disk.specs.declared.disk.Disk.{Ghosts}
use Rattle.linda_server.specs.declared.durable.Durable.{Durable}
use Rattle.linda_shared_outbox.specs.declared.outboxes.Outboxes.{Outboxes}
use Rattle.linda_shared_outbox.specs.Waiting.{waits_for}
use Rattle.linda_shared_outbox.specs.Replies.{opened}
use Rattle.linda_shared_accounts.specs.declared.fault.SharedFault.{SharedFault}
use Rattle.linda_shared_accounts.specs.declared.fault.SharedFault.TheVariants as faults
use Rattle.linda_shared_accounts.specs.declared.place.Place.TheVariants as places
use Rattle.linda_shared_accounts.specs.Accounts.{Accounts, accounts_of}
use Rattle.linda_shared_held.specs.Kept.{IsKnownStill, WaitsSame}

-- The client's seat is out now, and it has an outbox; what waits for the others is as it was.
pub record GoesOut (was : Accounts) (old : Outboxes) (client : ℕ) (accounts : Accounts)
    (boxes : Outboxes)
    : Type 0 where
  pub out : accounts ≡ accounts_of was.total (map.insert was.places client places.Out)
  pub opened_is : waits_for boxes client ≡ opened (waits_for old client)
  pub others : (c : ℕ) → c ≢ client → waits_for boxes c ≡ waits_for old c

-- No seat goes out but those of before, and what waits is as it was.
abbrev pub NoneGoesOut : Accounts → Outboxes → Accounts → Outboxes → Type 0
NoneGoesOut was old accounts boxes = (accounts ≡ was) × WaitsSame old boxes

module _ {D : Type 0} {g : Ghosts D} where
  -- The server did nothing.
  abbrev pub DidNothing : Durable D g → Durable D g → Type 0
  DidNothing old new =
      (new.store.state ≡ old.store.state) × (new.store.soft ≡ old.store.soft)
      × (new.disks ≡ old.disks)

  -- The server is asked by a Hello, and does nothing; or it is down (`ask`, `hello`).
  pub record IsAsked {A : Type 0} (old : Durable D g) (result : Result A SharedFault)
      (new : Durable D g) : Type 0 where
    pub same : OnOk result ((new.down ≡ false) × DidNothing old new)
    pub limit : new.limit ≡ old.limit
    pub only_down : IfErr result (λ fault. fault ≡ faults.Down)
    pub down : IsErrOf result faults.Down → new.down ≡ true
    pub still : IsKnownStill old new

  -- A greeting asks the server, which does nothing; it is Down exactly if the server is down, or
  -- memory ran out (`admit`).
  pub record Admits {A : Type 0} (old : Durable D g) (result : Result A SharedFault)
      (new : Durable D g) : Type 0 where
    pub up : OnOk result (new.down ≡ false)
    pub same : OnOk result (DidNothing old new)
    pub limit : new.limit ≡ old.limit
    pub down : IsErrOf result faults.Down → new.down ≡ true
    pub memory : IsErrOf result faults.Memory → (new.down ≡ false) × DidNothing old new
    pub fault : IfErr result (λ fault. (fault ≡ faults.Down) ⊎ (fault ≡ faults.Memory))
    pub still : IsKnownStill old new

  -- The same of a whole greeting, which is Down before all if the server was down (`greet`).
  pub record Greets {A : Type 0} (old : Durable D g) (result : Result A SharedFault)
      (new : Durable D g) : Type 0 where
    pub up : OnOk result ((old.down ≡ false) × (new.down ≡ false))
    pub same : OnOk result (DidNothing old new)
    pub down : IsErrOf result faults.Down → new.down ≡ true
    pub first : old.down ≡ true → IsErrOf result faults.Down × (new ≡ old)
    -- If memory ran out, a second greeting is answered as this one was to be.
    pub memory : IsErrOf result faults.Memory → (new.down ≡ false) × DidNothing old new
    pub fault : IfErr result (λ fault. (fault ≡ faults.Down) ⊎ (fault ≡ faults.Memory))
