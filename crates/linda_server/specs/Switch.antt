-- Switch of a server to its other disk, and how it empties that disk.
use Rattle.std.specs.Prelude.{◌≡◌, ℕ, ◌+◌, ◌<◌, ◌≤◌, ◌^◌, ◌⊎◌, not, length}
use Rattle.linda_store_state.specs.State.{State}
use Rattle.linda_disk.specs.View.{IsDurable}
use Rattle.linda_disk.specs.declared.disk.Disk.{Ghosts}
use Rattle.linda_journal.specs.declared.bank.Bank.{Bank}
use Rattle.linda_journal.specs.declared.limits.TheConstants.{MIN_BYTES}
use Rattle.linda_journal.specs.Renewal.{IsClosed, pieces}
use Rattle.linda_store_state.specs.DeedFormat.{written}
use Rattle.linda_snap.specs.Snapshot.{spell_state}
use Rattle.linda_server.specs.declared.disks.Disks.{Disks}
use Rattle.linda_server.specs.declared.disks.Disks.TheVariants.{InUse, Shut, Away}

-- There is no next bank for the state: it would pass the limit, or no generation is left after this
-- one.
abbrev pub HasNoNext : State → ℕ → ℕ → Type 0
HasNoNext st limit generation =
    (limit < MIN_BYTES + 1 + length (spell_state written st)) ⊎ (2 ^ 64 ≤ generation + 1)

-- How many calls make a new bank for the state after a closed gate: a write for each piece, a sync,
-- and a write and a sync that open the gate.
abbrev pub snapshot_calls : State → ℕ
snapshot_calls st = 3 + pieces (MIN_BYTES + length (spell_state written st))

module _ {D : Type 0} {g : Ghosts D} where
  -- The disk that is not in use is durable, if it is honest.
  abbrev pub IsOtherDurable : Disks (Bank D g) D → Type 0
  IsOtherDurable (InUse pair) = g.honest pair.other → IsDurable (g.view pair.other)
  IsOtherDurable (Shut left right) = ⊥
  IsOtherDurable Away = ⊥

  -- The two have changed places: the bank in use is in the form of new banks, of the next
  -- generation, and has no record, and the disk of the bank that was in use is the other one, as it
  -- was.
  abbrev pub IsSwitched : Disks (Bank D g) D → Disks (Bank D g) D → Type 0
  IsSwitched (InUse old) (InUse new) =
      (new.is_right ≡ not old.is_right) × (new.bank.form ≡ written)
      × (new.bank.generation ≡ old.bank.generation + 1)
      × (new.bank.records ≡ 0) × (new.other ≡ old.bank.disk)
  IsSwitched (InUse old) (Shut left right) = ⊥
  IsSwitched (InUse old) Away = ⊥
  IsSwitched (Shut left right) new = ⊥
  IsSwitched Away new = ⊥

  -- The two have changed places: the bank in use is in the form of new banks, of the next
  -- generation, has so many records and ends within its limit, and the disk of the bank that was in
  -- use is the other one, as it was.
  abbrev pub IsTakenOver : ℕ → Disks (Bank D g) D → Disks (Bank D g) D → Type 0
  IsTakenOver records (InUse old) (InUse new) =
      (new.is_right ≡ not old.is_right) × (new.bank.form ≡ written)
      × (new.bank.generation ≡ old.bank.generation + 1) × (new.bank.records ≡ records)
      × (new.bank.end < new.bank.limit) × (new.other ≡ old.bank.disk)
  IsTakenOver records (InUse old) (Shut left right) = ⊥
  IsTakenOver records (InUse old) Away = ⊥
  IsTakenOver records (Shut left right) new = ⊥
  IsTakenOver records Away new = ⊥

  -- The bank in use is as it was, and the other disk holds one byte, if it is honest, which is no
  -- open gate.
  abbrev pub IsTrimmed : Disks (Bank D g) D → Disks (Bank D g) D → Type 0
  IsTrimmed (InUse old) (InUse new) = (new.bank ≡ old.bank) × (new.is_right ≡ old.is_right)
      × (g.honest new.other
      → (length (g.view new.other).seen ≡ 1) × IsClosed (g.view new.other).seen)
  IsTrimmed (InUse old) (Shut left right) = ⊥
  IsTrimmed (InUse old) Away = ⊥
  IsTrimmed (Shut left right) new = ⊥
  IsTrimmed Away new = ⊥
