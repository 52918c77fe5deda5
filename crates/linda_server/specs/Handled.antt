-- Results of a server's calls: of those that take messages, and of those that write the same state
-- anew.
use Rattle.std.specs.Prelude.{◌≡◌, ℕ, ◌<◌, ◌⊎◌, ◌↔◌, List, [], length, true, false, Result, IfOk}
use Rattle.std.specs.Prelude.{◌+◌, IfErr, OnOk, IsErrOf, Some, None, IsSome}
use Rattle.std.specs.Global.{Vec}
use Rattle.std.specs.Vec.{vec_len}
use Rattle.linda_wire.specs.declared.message.Message.{Message}
use Rattle.linda_wire.specs.declared.reply.Reply.{Reply}
use Rattle.linda_disk.specs.declared.disk.Disk.{Ghosts}
use Rattle.linda_disk.specs.Disk.{TellsFailures}
use Rattle.linda_store_step.specs.History.{comings}
use Rattle.linda_store_step.specs.Store.{IsOrderly}
use Rattle.linda_store.specs.declared.node.NodeFault.{NodeFault}
use Rattle.linda_store.specs.declared.node.NodeFault.TheVariants as nodes
use Rattle.linda_store.specs.Node.{MayRemain}
use Rattle.linda_server.specs.declared.durable.Durable.{Durable}
use Rattle.linda_server.specs.declared.fault.ServeFault.{ServeFault}
use Rattle.linda_server.specs.declared.fault.ServeFault.TheVariants as faults
use Rattle.linda_store_step.specs.declared.served.Served.{Served}
use Rattle.linda_server.specs.declared.progress.Progress.{Progress}
use Rattle.linda_server.specs.declared.progress.Progress.TheVariants.{Idle, Going, Done}
use Rattle.linda_server.specs.Calls.{IsBeforeOrAfter, HasHandled, HasNoRoom, StandsFor}
use Rattle.linda_server.specs.Lives.{GoesOn}
use Rattle.linda_server.specs.Next.{HasGrown}
use Rattle.linda_server.specs.declared.next.NextBank.{NextBank}
use Rattle.linda_snap.specs.declared.entry.TheConstants.{MAX_KEPT_BYTES}
use Rattle.linda_server.specs.Node.{shown}
use Rattle.linda_store_step.specs.Served.{IsServed}
use Rattle.linda_server.specs.Switch.{HasNoNext, IsTakenOver}
use Rattle.linda_server.specs.Server.{form_in_use, end_in_use, generation_in_use, BothHonest}
use Rattle.linda_server.specs.Server.{failures_of}
use Rattle.linda_server.specs.Server.{IsPutOn, IsBankStill, AlwaysLeave, StandNow}

module _ {D : Type 0} {g : Ghosts D} where
  -- The deeds that the messages would do have no room on the bank in use: one of them has no
  -- spelling in its form, or their records, and the gate after them, would pass the limit.
  abbrev pub HasNoRoomFor : Durable D g → List (ℕ × Message) → Type 0
  HasNoRoomFor s ms = HasNoRoom s.store ms (form_in_use s.disks) (end_in_use s.disks) s.limit

  -- There is no next bank for its state.
  abbrev pub HasNoNextBank : Durable D g → Type 0
  HasNoNextBank s = HasNoNext s.store.state s.limit (generation_in_use s.disks)

  -- In the call in which it goes down, some first deeds of what came may be done.
  abbrev pub LosesSome : Durable D g → List (ℕ × Message) → Durable D g → Type 0
  LosesSome old ms new = old.down ≡ false → new.down ≡ true
      → MayRemain (shown old.before.value old.store old.down old.lost.items) (comings ms)
      new.lost.items

  -- It took these messages, or it did not (`serve`, `serve_all`).
  pub record Serves (old : Durable D g) (ms : List (ℕ × Message))
      (result : Result Served ServeFault)
      (new : Durable D g) : Type 0 where
    -- The server was in order, as each is.
    pub orderly : IsOrderly old.store.state old.store.soft
    -- Crashes at any moment leave the old state, or the one after all deeds;
    pub any_moment : old.down ≡ false
        → AlwaysLeave old.disks new.disks (IsBeforeOrAfter old.store (comings ms))
    -- at Ok it did what they ask, each has its counts, and crashes now leave the state after that.
    pub done : IfOk result
        (λ served. IsServed old.store.state old.store.soft ms served new.store.state new.store.soft)
    pub each : IfOk result (λ served. vec_len served.counts ≡ length ms)
    pub now : OnOk result (StandNow new.disks new.store.state)
    pub up : OnOk result ((old.down ≡ false) × (new.down ≡ false))
    -- It is Full only if the deeds have no room on the bank in use, and nothing changed then; at Ok
    -- they have room.
    pub full : IsErrOf result faults.Full → (new ≡ old) × HasNoRoomFor old ms
    pub room : OnOk result (HasNoRoomFor old ms → ⊥)
    -- It is Down exactly if the server was down, and nothing changed then; after Disk and Memory
    -- the server is down.
    pub was_down : IsErrOf result faults.Down ↔ (old.down ≡ true)
    pub stays_down : old.down ≡ true → new ≡ old
    pub goes_down : (IsErrOf result faults.Disk → new.down ≡ true)
        × (IsErrOf result faults.Memory → new.down ≡ true)
    pub cause : IfErr result
        (λ fault. TellsFailures faults.Disk fault (failures_of old.disks) (failures_of new.disks))
    -- If it did no deed, it made no device call; else four of them changed or synced the disk of
    -- the bank in use, and the other disk was not touched.
    pub idle : IfOk result (λ served. served.deeds.items ≡ [] → new.disks ≡ old.disks)
    pub clock : IfOk result (λ served. 0 < length served.deeds.items → IsPutOn old.disks new.disks)
    pub honest : BothHonest old.disks ↔ BothHonest new.disks
    pub limit : new.limit ≡ old.limit
    pub lost : LosesSome old ms new
    pub before : old.down ≡ false
        → IsErrOf result faults.Full ⊎ (new.before.value ≡ old.store.state)
    -- Every life of the server goes on by it.
    pub life : GoesOn (λ (served : Served). served.sends.items) old result new

  -- It took these messages, or it did not, as a node says it (`handle`, `handle_all`).
  pub record Handles (old : Durable D g) (ms : List (ℕ × Message))
      (result : Result (Vec (ℕ × Reply)) NodeFault)
      (new : Durable D g) : Type 0 where
    pub any_moment : old.down ≡ false
        → AlwaysLeave old.disks new.disks (IsBeforeOrAfter old.store (comings ms))
    pub done : IfOk result (λ sends. HasHandled old.store (comings ms) sends.items new.store)
    pub now : OnOk result (StandNow new.disks new.store.state)
    pub up : OnOk result ((old.down ≡ false) × (new.down ≡ false))
    pub full : IsErrOf result nodes.Full → (new ≡ old) × HasNoRoomFor old ms
    pub room : OnOk result (HasNoRoomFor old ms → ⊥)
    pub down : IsErrOf result nodes.Down → new.down ≡ true
    pub stays_down : old.down ≡ true → IsErrOf result nodes.Down × (new ≡ old)
    pub honest : BothHonest old.disks ↔ BothHonest new.disks
    pub limit : new.limit ≡ old.limit
    pub lost : LosesSome old ms new
    pub before : old.down ≡ false → new.down ≡ true → new.before.value ≡ old.store.state
    -- Every life of the server goes on by it.
    pub life : GoesOn (λ (sends : Vec (ℕ × Reply)). sends.items) old result new

  -- It wrote the same state anew, or a part of it, or room for it (`renew`, `clear`, `snapshot`,
  -- `trim`, `begin_snapshot`, `continue_snapshot`, `lengthen`, `preallocate`, `reserve`).
  pub record Rewrites {T E : Type 0} (old : Durable D g) (result : Result T E)
      (new : Durable D g) : Type 0 where
    -- Crashes at any moment leave the state.
    pub any_moment : old.down ≡ false → AlwaysLeave old.disks new.disks (StandsFor old.store.state)
    pub now : OnOk result (StandNow new.disks new.store.state)
    pub same : (new.store ≡ old.store) × (new.limit ≡ old.limit)
    pub up : OnOk result ((old.down ≡ false) × (new.down ≡ false))
    -- Nothing is done in the call in which it goes down.
    pub lost : old.down ≡ false → new.down ≡ true
        → (new.before.value ≡ old.store.state) × (new.lost.items ≡ [])
    pub honest : BothHonest old.disks ↔ BothHonest new.disks

  -- It is Down exactly if the server was down, and nothing changed then; after Disk and Memory the
  -- server is down (`renew`, `clear`, `start`, `advance`, `lengthen`).
  pub record Fails {T : Type 0} (old : Durable D g) (result : Result T ServeFault)
      (new : Durable D g) : Type 0 where
    pub was_down : IsErrOf result faults.Down ↔ (old.down ≡ true)
    pub stays_down : old.down ≡ true → new ≡ old
    pub goes_down : (IsErrOf result faults.Disk → new.down ≡ true)
        × (IsErrOf result faults.Memory → new.down ≡ true)
    pub cause : IfErr result
        (λ fault. TellsFailures faults.Disk fault (failures_of old.disks) (failures_of new.disks))

  -- At Ok a snapshot in steps is begun, and the bank in use is as it was (`start`,
  -- `begin_snapshot`).
  abbrev pub HasBegun : Durable D g → Durable D g → Type 0
  HasBegun old new = IsSome new.next × IsBankStill old.disks new.disks

  -- A snapshot in steps came to its end: its bank is in use, with the records that were noted, and
  -- the last step wrote so many bytes at most, and one entry of a snapshot.
  pub record HasEnded (most : ℕ) (old new : Durable D g) : Type 0 where
    pub was : NextBank
    pub were : old.next ≡ Some was
    pub none : new.next ≡ None
    pub taken : IsTakenOver was.writer.records old.disks new.disks
    pub few : end_in_use new.disks < was.at + (most + MAX_KEPT_BYTES)

  -- A step of a snapshot, of so many bytes, came to this (`advance`, `continue_snapshot`): none is
  -- begun, and nothing changed; one that is begun goes on, beside the bank in use; or it came to
  -- its end.
  abbrev pub CameTo : ℕ → Durable D g → Durable D g → Progress → Type 0
  CameTo most old new Idle = (old.next ≡ None) × (new.next ≡ None) × (new.disks ≡ old.disks)
  CameTo most old new Going = HasGrown most old.next new.next × IsBankStill old.disks new.disks
  CameTo most old new Done = HasEnded most old new

  -- As a node says it: after Down the server is down, and it is Down if the server was down, with
  -- nothing changed; and every life goes on by it (`snapshot`, `trim`, `begin_snapshot`,
  -- `continue_snapshot`, `preallocate`, `reserve`).
  pub record Falls {T : Type 0} (old : Durable D g) (result : Result T NodeFault)
      (new : Durable D g) : Type 0 where
    pub down : IsErrOf result nodes.Down → new.down ≡ true
    pub stays_down : old.down ≡ true → IsErrOf result nodes.Down × (new ≡ old)
    pub life : GoesOn (λ (done : T). []) old result new
