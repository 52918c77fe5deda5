-- Core under the lock of a server that takes messages, and what the calls that take them keep to.
use Rattle.std.specs.Prelude.{◌≡◌, ◌⊎◌, ℕ, ◌+◌, ◌<◌, ◌^◌, ◌++◌, List, [], ◌∷◌, length, true, false}
use Rattle.std.specs.Prelude.{Option, Result, IfOk, IfErr, OnOk, OnErr, IsErrOf}
use Rattle.std.specs.Global.{Vec}
use Rattle.std.specs.Vec.{vec_len}
use Rattle.linda_wire.specs.declared.message.Message.{Message}
use Rattle.linda_wire.specs.declared.refusal.Refusal.{Refusal}
use Rattle.linda_wire.specs.Refusal.{refused}
use Rattle.linda_store_state.specs.State.{State}
use Rattle.linda_disk.specs.declared.disk.Disk.{Ghosts}
use Rattle.linda_server.specs.declared.durable.Durable.{Durable}
use Rattle.linda_store_step.specs.declared.served.Served.{Served}
use Rattle.linda_store_step.specs.Served.{IsServed}
use Rattle.linda_server.specs.Handled.{HasNoRoomFor}
use Rattle.linda_server.specs.Server.{IsPutOn}
use Rattle.linda_shared_outbox.specs.declared.outboxes.Outboxes.{Outboxes}
use Rattle.linda_shared_outbox.specs.Waiting.{waits_for}
use Rattle.linda_shared_outbox.specs.Replies.{replies_to, with_more}
use Rattle.linda_shared_accounts.specs.declared.fault.SharedFault.{SharedFault}
use Rattle.linda_shared_accounts.specs.declared.fault.SharedFault.TheVariants as faults
use Rattle.linda_shared_accounts.specs.declared.receipt.Receipt.{Receipt}
use Rattle.linda_shared_accounts.specs.Telling.{receipts_in}
use Rattle.linda_shared_held.specs.declared.snapshot_policy.SnapshotPolicy.{SnapshotPolicy}
use Rattle.linda_shared_held.specs.Order.{known, IsInOrder}
use Rattle.linda_shared_held.specs.Covered.{BoxesCovered}
use Rattle.linda_shared_held.specs.SnapshotPolicy.{refused_for_room}
use Rattle.linda_shared_held.specs.Posted.{GoTogether, GoesAlone, WentSome}

-- What takes messages: the server, the receipts of its deeds since the base, and the outboxes.
pub record Kept (D : Type 0) (g : Ghosts D) : Type 0 where
  pub server : Durable D g
  pub receipts : List Receipt
  pub boxes : Outboxes

-- What is covered in a state stays so, for every state.
abbrev pub KeepCovered : Outboxes → Outboxes → Type 0
KeepCovered old new =
    (st : State) → BoxesCovered st (waits_for old) → BoxesCovered st (waits_for new)

-- What waits is as it was.
abbrev pub WaitsSame : Outboxes → Outboxes → Type 0
WaitsSame old new = (c : ℕ) → waits_for new c ≡ waits_for old c

module _ {D : Type 0} {g : Ghosts D} where
  -- these three
  abbrev pub kept : Durable D g → Vec Receipt → Outboxes → Kept D g
  kept server receipts boxes =
      record { server = server; receipts = receipts.items; boxes = boxes }

  -- the state of a server; while it is down, the one before the call in which it went down
  abbrev pub known_of : Durable D g → State
  known_of s = known s.before.value s.store s.down

  -- What is known of the server is as before, and it is up only if it was.
  abbrev pub IsKnownStill : Durable D g → Durable D g → Type 0
  IsKnownStill old new =
      (known_of new ≡ known_of old) × (new.down ≡ false → old.down ≡ false)

  -- It is in order, for this opening and this base, if so many deeds were reported.
  abbrev pub InOrder : State → State → ℕ → Kept D g → Type 0
  InOrder opening base count k =
      IsInOrder opening base k.receipts count k.server.down (known_of k.server)

  -- All that waits is covered by what is known of the server.
  abbrev pub AllCovered : Kept D g → Type 0
  AllCovered k = BoxesCovered (known_of k.server) (waits_for k.boxes)

  -- It takes messages, in one step or one by one; `told` gives what is reported of each of them at
  -- Ok.
  pub record Keeps {A : Type 0} (told : A → List (Option Receipt)) (old : Kept D g)
      (result : Result A SharedFault)
      (new : Kept D g) : Type 0 where
    -- At Ok the receipts of the deeds are kept, and else none.
    pub receipts : IfOk result (λ x. new.receipts ≡ old.receipts ++ receipts_in (told x))
    pub err : OnErr result (new.receipts ≡ old.receipts)
    pub down : IsErrOf result faults.Down → new.server.down ≡ true
    pub memory : IsErrOf result faults.Memory
        → (new.server ≡ old.server) × (new.boxes ≡ old.boxes)
    -- It stays in order, and what waits stays covered.
    pub ok_order : (opening base : State) (count : ℕ) → InOrder opening base count old
        → IfOk result (λ x. InOrder opening base (count + length (receipts_in (told x))) new)
    pub err_order : (opening base : State) (count : ℕ) → InOrder opening base count old
        → OnErr result (InOrder opening base count new)
    pub covered : (opening base : State) (count : ℕ) → InOrder opening base count old
        → AllCovered old → AllCovered new

  abbrev pub KeepsAll : Kept D g → Result (Vec (Option Receipt)) SharedFault → Kept D g → Type 0
  KeepsAll old result new = Keeps (λ (told : Vec (Option Receipt)). told.items) old result new

  -- It serves messages in one step (`serve`).
  pub record ServesAll (old : Kept D g) (ms : List (ℕ × Message))
      (result : Result (Vec (Option Receipt)) SharedFault)
      (new : Kept D g) : Type 0 where
    pub keeps : KeepsAll old result new
    -- At Ok what is reported of each is what its answer says, and what is sent is posted;
    pub done : IfOk result (λ told. GoTogether old.server ms told.items (waits_for old.boxes)
        (waits_for new.boxes) new.server)
    pub one_each : IfOk result (λ told. vec_len told ≡ length ms)
    pub up : OnOk result ((old.server.down ≡ false) × (new.server.down ≡ false))
    -- else nothing is posted; at Full nothing changed.
    pub nothing : OnErr result (WaitsSame old.boxes new.boxes)
    pub full : IsErrOf result faults.Full → (new.server ≡ old.server) × (new.boxes ≡ old.boxes)
        × HasNoRoomFor old.server ms
    pub room : OnOk result (HasNoRoomFor old.server ms → ⊥)
    pub fault : IfErr result (λ fault. (fault ≡ faults.Full)
        ⊎ ((fault ≡ faults.Down) ⊎ (fault ≡ faults.Memory)))

  -- It takes one message by itself (`take_one`).
  pub record TakesOne (old : Kept D g) (count : ℕ) (m : ℕ × Message)
      (result : Result (Option Receipt) SharedFault)
      (new : Kept D g) : Type 0 where
    pub keeps : Keeps (λ one. one ∷ []) old result new
    pub done : IfOk result (λ one. GoesAlone old.server count m (waits_for old.boxes) one
        (waits_for new.boxes) new.server)
    pub countable : IfOk result (λ one. count + length (receipts_in (one ∷ [])) < 2 ^ 64)
    pub still : OnOk result (new.server.down ≡ old.server.down)
    -- Else the server is down, and nothing is posted.
    pub err : OnErr result ((new.server.down ≡ true) × WaitsSame old.boxes new.boxes)

  -- It takes messages, in one step or one by one (`serve_each`, `take`).
  pub record TakesAll (old : Kept D g) (count : ℕ) (ms : List (ℕ × Message))
      (result : Result (Vec (Option Receipt)) SharedFault)
      (new : Kept D g) : Type 0 where
    pub keeps : KeepsAll old result new
    pub one_each : IfOk result (λ told. vec_len told ≡ length ms)
    pub countable : IfOk result (λ told. count + length (receipts_in told.items) < 2 ^ 64)
    -- Else what is posted was sent by some first messages that went one by one.
    pub some : OnErr result (WentSome old.server count ms (waits_for old.boxes)
        (waits_for new.boxes))
    pub fault : IfErr result (λ fault. (fault ≡ faults.Down) ⊎ (fault ≡ faults.Memory))

  -- It posts to the client that its message is refused (`turn_away`); else the server is down.
  pub record TurnsAway (old : Durable D g) (was : Outboxes) (client : ℕ) (refusal : Refusal)
      (result : Result (Unit {0}) SharedFault)
      (new : Durable D g) (boxes : Outboxes) : Type 0 where
    pub posted : OnOk result ((c : ℕ) → waits_for boxes c
        ≡ with_more (replies_to c ((client, refused refusal) ∷ [])) (waits_for was c))
    pub same : OnOk result (new ≡ old)
    pub err : OnErr result (WaitsSame was boxes)
    pub down : OnErr result (new.down ≡ true)
    pub fault : IfErr result (λ fault. fault ≡ faults.Down)
    pub still : IsKnownStill old new
    pub covered : KeepCovered was boxes

  -- The server took messages, or did not (`take_all`).
  pub record Attempts (old : Durable D g) (ms : List (ℕ × Message))
      (result : Result Served SharedFault)
      (new : Durable D g) : Type 0 where
    pub done : IfOk result
        (λ served. IsServed old.store.state old.store.soft ms served new.store.state new.store.soft)
    pub each : IfOk result (λ served. vec_len served.counts ≡ length ms)
    pub up : OnOk result ((old.down ≡ false) × (new.down ≡ false))
    -- For all deeds together four device calls were made on the bank in use; if there are none, no
    -- disk was touched.
    pub idle : IfOk result (λ served. served.deeds.items ≡ [] → new.disks ≡ old.disks)
    pub clock : IfOk result (λ served. 0 < length served.deeds.items → IsPutOn old.disks new.disks)
    pub fault : IfErr result (λ fault. (fault ≡ faults.Full) ⊎ (fault ≡ faults.Down))
    pub full : IsErrOf result faults.Full → (new ≡ old) × HasNoRoomFor old ms
    pub room : OnOk result (HasNoRoomFor old ms → ⊥)
    pub down : IsErrOf result faults.Down → new.down ≡ true
    -- What is known of a server that did not take them is as before.
    pub still : OnErr result (IsKnownStill old new)

  -- If the server has no room for all messages, a snapshot is asked for; nothing else of the policy
  -- changes (`take`).
  pub record Asks {A : Type 0} (old : Durable D g) (count : ℕ) (ms : List (ℕ × Message))
      (was : SnapshotPolicy)
      (result : Result A SharedFault)
      (now : SnapshotPolicy) : Type 0 where
    pub lacks : OnOk result (count + length ms < 2 ^ 64 → HasNoRoomFor old ms
        → now.lacks_room ≡ true)
    pub policy : (now ≡ was) ⊎ (now ≡ refused_for_room was)
    pub unasked : (HasNoRoomFor old ms → ⊥) → now ≡ was
    pub first : old.down ≡ true → now ≡ was

  -- It is Down before all, and exactly if the server is down; or memory ran out, and nothing
  -- changed (`handle_all`, `take`).
  pub record Fails {A : Type 0} (old : Kept D g) (result : Result A SharedFault) (new : Kept D g)
      : Type 0 where
    pub up : OnOk result ((old.server.down ≡ false) × (new.server.down ≡ false))
    pub down : IsErrOf result faults.Down → new.server.down ≡ true
    pub first : old.server.down ≡ true → IsErrOf result faults.Down × (new.server ≡ old.server)
        × (new.boxes ≡ old.boxes)
    pub memory : IsErrOf result faults.Memory → (new.server ≡ old.server)
        × (new.boxes ≡ old.boxes) × (old.server.down ≡ false)
    pub fault : IfErr result (λ fault. (fault ≡ faults.Down) ⊎ (fault ≡ faults.Memory))
