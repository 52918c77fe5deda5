-- A disk in memory as contracts see it, and what a call does to it.
use Rattle.std.specs.Prelude.{◌≡◌, ℕ, ◌+◌, ◌^◌, ◌≤◌, Result, Ok, Err, IsErrOf}
use Rattle.linda_disk.specs.declared.call.DeviceCall.{DeviceCall}
use Rattle.linda_disk.specs.declared.call.DeviceCall.TheVariants.{Write, Cut, Sync}
use Rattle.linda_disk.specs.declared.fault.DiskFault.{DiskFault}
use Rattle.linda_disk.specs.declared.fault.DiskFault.TheVariants.{Device, Memory}
use Rattle.linda_disk.specs.declared.trouble.Turn.{Turn}
use Rattle.linda_disk.specs.declared.trouble.Turn.TheVariants.{Works, Stops, Fails}
use Rattle.linda_disk.specs.declared.trouble.Trouble.{Trouble}
use Rattle.linda_disk.specs.declared.mem_disk.MemDisk.{MemDisk}
use Rattle.linda_disk.specs.View.{View}
use Rattle.linda_disk.specs.DiskHistory.{DiskHistory, after, view_of}

-- what it held at first, and the calls since
abbrev pub history : MemDisk → DiskHistory
history disk = disk.history

-- what is to go wrong on it
abbrev pub trouble : MemDisk → Trouble
trouble disk = disk.trouble

-- how often it has failed
abbrev pub failures : MemDisk → ℕ
failures disk = disk.failures

-- the disk at this moment
abbrev pub view : MemDisk → View
view disk = view_of disk.history

-- what a call returns
abbrev pub Told : Type 0
Told = Result (Unit {0}) DiskFault

-- What a call returns at its turn.
abbrev pub answer_at : Turn → Told
answer_at Works = Ok tt
answer_at Stops = Err Device
answer_at Fails = Err Device

-- If the machine stops inside a write or a cut, it is done in full. A sync in which it stops has
-- not happened.
abbrev pub history_at : Turn → DeviceCall → DiskHistory → DiskHistory
history_at Works call h = after call h
history_at Stops (Write at bytes) h = after (Write at bytes) h
history_at Stops (Cut n) h = after (Cut n) h
history_at Stops Sync h = h
history_at Fails call h = h

-- A call counts if it fails.
abbrev pub failures_at : Turn → ℕ → ℕ
failures_at Works n = n
failures_at Stops n = n + 1
failures_at Fails n = n + 1

-- A call at this turn, which leaves this history: if memory runs out, all is as before.
pub record GoesBy (turn : Turn × Trouble) (then : DiskHistory) (result : Told) (old new : MemDisk)
    : Type 0 where
  pub memory : IsErrOf result Memory → new ≡ old
  -- a call that is to fail takes none: it says so, as long as the count can rise
  pub no_memory : turn.0 ≡ Fails → IsErrOf result Memory → 2 ^ 64 ≤ failures old + 1
  pub told : (IsErrOf result Memory → ⊥) → result ≡ answer_at turn.0
  pub done : (IsErrOf result Memory → ⊥) → history new ≡ then
  pub trouble_after : (IsErrOf result Memory → ⊥) → trouble new ≡ turn.1
  pub counted : (IsErrOf result Memory → ⊥) → failures new ≡ failures_at turn.0 (failures old)
