-- A client is closed, and its session ends.
use Rattle.std.specs.Prelude.{◌≡◌, ◌≢◌, ℕ, None, true, false, Result, IfOk, IfErr, OnOk}
use Rattle.std.specs.Prelude.{OnErr}
use Rattle.std.specs.Prelude.{IsErrOf}
use Rattle.std.specs.Global.{Vec}
use Rattle.linda_wire.specs.declared.reply.Reply.{Reply}
use Rattle.linda_store_step.specs.Dispatch.{on_close}
use Rattle.linda_disk.specs.declared.disk.Disk.{Ghosts}
use Rattle.linda_server.specs.declared.durable.Durable.{Durable}
use Rattle.linda_shared_outbox.specs.declared.outboxes.Outboxes.{Outboxes}
use Rattle.linda_shared_outbox.specs.Waiting.{waits_for}
use Rattle.linda_shared_accounts.specs.declared.fault.SharedFault.{SharedFault}
use Rattle.linda_shared_accounts.specs.declared.fault.SharedFault.TheVariants as faults
use Rattle.linda_shared_held.specs.Kept.{IsKnownStill, KeepCovered, WaitsSame}
use Rattle.linda_shared_held.specs.Posted.{HasClosed, HasLeft}

module _ {D : Type 0} {g : Ghosts D} where
  -- It is Down exactly if the server is down, and there is no other fault. A server that was down
  -- is as before.
  pub record IsDownOnly {A : Type 0} (old : Durable D g) (result : Result A SharedFault)
      (new : Durable D g) : Type 0 where
    pub up : OnOk result ((old.down ≡ false) × (new.down ≡ false))
    pub down : OnErr result (new.down ≡ true)
    pub first : old.down ≡ true → IsErrOf result faults.Down × (new ≡ old)
    pub fault : IfErr result (λ fault. fault ≡ faults.Down)

  -- The server gives up what the client asked (`close_client`).
  pub record Closes (old : Durable D g) (client : ℕ) (result : Result (Vec (ℕ × Reply)) SharedFault)
      (new : Durable D g) : Type 0 where
    pub done : IfOk result (λ sends. record { sends = sends.items; soft = new.store.soft }
        ≡ on_close old.store.state.bag client old.store.soft)
    pub state : new.store.state ≡ old.store.state
    pub falls : IsDownOnly old result new
    pub disks : (new.disks ≡ old.disks) × (new.limit ≡ old.limit)
    pub still : IsKnownStill old new

  -- It gives up what the client asked, and what is sent is posted (`close`, `close_and_post`).
  pub record ClosesAndPosts (old : Durable D g) (was : Outboxes) (client : ℕ)
      (result : Result (Unit {0}) SharedFault)
      (new : Durable D g) (boxes : Outboxes) : Type 0 where
    pub done : OnOk result (HasClosed old.store.state.bag client old.store.soft (waits_for was)
        (waits_for boxes) new.store.soft)
    pub state : OnOk result (new.store.state ≡ old.store.state)
    pub falls : IsDownOnly old result new
    pub disks : (new.disks ≡ old.disks) × (new.limit ≡ old.limit)
    pub err : OnErr result (WaitsSame was boxes)
    pub still : IsKnownStill old new
    -- What is covered stays so: what is sent reports no deed that is not kept.
    pub covered : KeepCovered was boxes

  -- The session of a client ends: it is closed and, even if that fails, its outbox is shut
  -- (`leave`, `depart`).
  pub record Departs (old : Durable D g) (was : Outboxes) (client : ℕ)
      (result : Result (Unit {0}) SharedFault)
      (new : Durable D g) (boxes : Outboxes) : Type 0 where
    pub done : OnOk result (HasLeft old.store.state.bag client old.store.soft (waits_for was)
        (waits_for boxes) new.store.soft)
    pub soft : OnOk result
        (new.store.soft ≡ (on_close old.store.state.bag client old.store.soft).soft)
    pub state : OnOk result (new.store.state ≡ old.store.state)
    pub falls : IsDownOnly old result new
    pub disks : (new.disks ≡ old.disks) × (new.limit ≡ old.limit)
    pub shut : waits_for boxes client ≡ None
    pub err : OnErr result ((c : ℕ) → c ≢ client → waits_for boxes c ≡ waits_for was c)
    pub still : IsKnownStill old new
    pub covered : KeepCovered was boxes
