-- Calls of a disk: what each does to its view, and when it reports a failure.
use Rattle.std.specs.Prelude.{◌≡◌, ◌≢◌, ℕ, ◌+◌, ◌<◌, ◌≤◌, ◌⊎◌, List, length, take, Result, OnOk}
use Rattle.std.specs.Prelude.{IsErrOf}
use Rattle.linda_disk.specs.declared.fault.DiskFault.{DiskFault}
use Rattle.linda_disk.specs.declared.fault.DiskFault.TheVariants.{Device, Memory}
use Rattle.linda_disk.specs.View.{View, IsDurable, LeavesNoMore, Follows, Elapses}
use Rattle.linda_disk.specs.Image.{overlay, TornWrite, TornCut}

-- The clock counts the calls that changed or synced the file: it goes on by one if the call was
-- done, and by one at most if it returns a fault.
pub record Ticks {T : Type 0} (result : Result T DiskFault) (old new : View) : Type 0 where
  pub ok : OnOk result (new.moment ≡ old.moment + 1)
  pub most : new.moment ≤ old.moment + 1

-- A length or a read: the disk stays as it is, its clock too.
pub record Keeps (old new : View) : Type 0 where
  pub seen : new.seen ≡ old.seen
  pub crash : LeavesNoMore old new
  pub time : Elapses old new
  pub clock : new.moment ≡ old.moment

-- A write. What a crash may leave is said at an error too.
pub record Writes {T : Type 0} (at : ℕ) (bytes : List ℕ) (result : Result T DiskFault)
    (old new : View) : Type 0 where
  pub seen : OnOk result (new.seen ≡ overlay at bytes old.seen)
  pub crash : Follows (TornWrite at (length bytes)) old new
  pub time : Elapses old new
  pub clock : Ticks result old new

-- A cut to n bytes.
pub record Cuts {T : Type 0} (n : ℕ) (result : Result T DiskFault) (old new : View) : Type 0 where
  pub seen : OnOk result (new.seen ≡ take n old.seen)
  pub crash : Follows (TornCut n) old new
  pub time : Elapses old new
  pub clock : Ticks result old new

-- A sync. If it fails, what a read gives is not promised to stay: a machine may drop what it had
-- not written.
pub record Syncs {T : Type 0} (result : Result T DiskFault) (old new : View) : Type 0 where
  pub seen : OnOk result (new.seen ≡ old.seen)
  pub durable : OnOk result (IsDurable new)
  pub crash : LeavesNoMore old new
  pub time : Elapses old new
  pub clock : Ticks result old new

-- The count of failures rises by one if the call reports a failure of the device, and stays
-- elsewhere.
pub record CountsFailure {T : Type 0} (result : Result T DiskFault) (old new : ℕ) : Type 0 where
  pub ok : OnOk result (new ≡ old)
  pub memory : IsErrOf result Memory → new ≡ old
  pub device : IsErrOf result Device → new ≡ old + 1

-- The fault says whether a device failed: if it is that of a device, the count of failures rose,
-- and with each other one it is as it was.
pub record TellsFailures {F : Type 0} (device told : F) (old new : ℕ) : Type 0 where
  pub cause : told ≡ device → old < new
  pub others : told ≢ device → new ≡ old

-- The fault says whether one of two disks failed: if it is that of a device, the count of one of
-- them rose, and with each other fault both counts are as they were.
pub record TellsFailuresOfTwo {F : Type 0} (device told : F)
    (old_left old_right new_left new_right : ℕ) : Type 0 where
  pub cause : told ≡ device → (old_left < new_left) ⊎ (old_right < new_right)
  pub others : told ≢ device → (new_left ≡ old_left) × (new_right ≡ old_right)
