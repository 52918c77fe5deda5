-- Runs of device calls on one disk, as the functions that make them say it: the disk stays honest,
-- the fault is that of the device or another, so many calls were made, and a crash at any moment
-- leaves only this.
use Rattle.std.specs.Prelude.{◌≡◌, ◌↔◌, ℕ, ◌+◌, List, length, Result, Ok, Err, OnOk}
use Rattle.linda_disk.specs.declared.disk.Disk.{Ghosts}
use Rattle.linda_disk.specs.declared.fault.DiskFault.{DiskFault}
use Rattle.linda_disk.specs.View.{View, IsDurable}
use Rattle.linda_disk.specs.Image.{overlay, TornWrite}
use Rattle.linda_disk.specs.Disk.{TellsFailures}
use Rattle.linda_disk.specs.Run.{LeavesOnly}

-- What is said of the disk at the beginning of a run and at its end.
abbrev pub Law : Type 1
Law = View → View → Type 0

-- Nothing more is said.
abbrev pub anything : Law
anything old new = Unit {0}

-- So many calls changed or synced the file.
abbrev pub takes : ℕ → Law
takes calls old new = new.moment ≡ old.moment + calls

-- A crash at any moment leaves an image that has P.
abbrev pub leaves : (List ℕ → Type 0) → Law
leaves P old new = LeavesOnly old new P

-- A crash at any moment leaves what a read gave.
abbrev pub stays : Law
stays old new = LeavesOnly old new (λ image. image ≡ old.seen)

module _ {D : Type 0} (g : Ghosts D) where
  -- A run that is done: `law` says what a crash at any moment of it left, `count` how many calls it
  -- made.
  pub record IsDone (law count : Law) (old new : D) : Type 0 where
    pub honest : g.honest old ↔ g.honest new
    pub steady : g.failures new ≡ g.failures old
    pub any_moment : g.honest old → law (g.view old) (g.view new)
    pub clock : g.honest old → count (g.view old) (g.view new)

  -- A run that ended with a fault, which is that of the device exactly if the disk counted one.
  pub record IsBroken {F : Type 0} (law : Law) (device fault : F) (old new : D)
      : Type 0 where
    pub honest : g.honest old ↔ g.honest new
    pub cause : TellsFailures device fault (g.failures old) (g.failures new)
    pub any_moment : g.honest old → law (g.view old) (g.view new)

  -- A run of calls on a disk that is borrowed.
  abbrev pub Runs : {T F : Type 0} → Law → Law → F → D → Result T F → D → Type 0
  Runs law count device old (Ok x) new = IsDone law count old new
  Runs law count device old (Err fault) new = IsBroken law device fault old new

  -- The same, if the disk is handed on: in what the run made of it, or beside the fault.
  abbrev pub RunsTo : {T F : Type 0} → (T → D) → Law → Law → F → D → Result T (F × D) → Type 0
  RunsTo disk_of law count device old (Ok x) = IsDone law count old (disk_of x)
  RunsTo disk_of law count device old (Err e) = IsBroken law device e.0 old e.1

  -- The same, if another thing is handed back beside the fault and the disk.
  abbrev pub RunsBeside : {T F B : Type 0} → (T → D) → Law → Law → F → D → Result T (F × B × D)
      → Type 0
  RunsBeside disk_of law count device old (Ok x) = IsDone law count old (disk_of x)
  RunsBeside disk_of law count device old (Err e) = IsBroken law device e.0 old e.2

-- A write that is synced, from a durable disk: nothing is there but the bytes, or a part of them.
pub record WritesSynced {T : Type 0} (at : ℕ) (bytes : List ℕ) (result : Result T DiskFault)
    (old new : View) : Type 0 where
  pub seen : OnOk result (new.seen ≡ overlay at bytes old.seen)
  pub durable : OnOk result (IsDurable new)
  pub any_moment : IsDurable old → LeavesOnly old new (TornWrite at (length bytes) old.seen)
