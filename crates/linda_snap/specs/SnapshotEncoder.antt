-- A snapshot that is written in steps while the server goes on: what it has written, and what it
-- owes.
use Rattle.std.specs.Prelude.{◌≡◌, ◌≤◌, ◌<◌, ◌++◌, ℕ, nat_lt, List, length, Option, None, Some}
use Rattle.std.specs.Prelude.{if◌then◌else◌, IfSome, IfNone}
use Rattle.std.specs.Borrow.{Bor}
use Rattle.std.specs.List.{flat_map}
use Rattle.std.specs.Ordering.{nat_cmp}
use Rattle.std.specs.FinMap.{FinMap, get, entries, from_entries}
use Rattle.linda_tuple.specs.Tuple.{Tuple}
use Rattle.linda_codec.specs.Formats.{number}
use Rattle.linda_store_state.specs.DeedFormat.{written}
use Rattle.linda_store_state.specs.State.{State}
use Rattle.linda_snap.specs.declared.snapshot_encoder.SnapshotEncoder.{SnapshotEncoder}
use Rattle.linda_snap.specs.Rising.{entries_from}
use Rattle.linda_snap.specs.Snapshot.{listed, placed}

-- tuples by id
abbrev pub Tuples : Type 0
Tuples = FinMap nat_cmp Tuple

-- the tuples that were put aside
abbrev pub aside_of : SnapshotEncoder → Tuples
aside_of snapshot = from_entries {R = nat_cmp} snapshot.aside.tuples.entries

-- the first one, if there is one, else the other
abbrev pub first_of : Option Tuple → Option Tuple → Option Tuple
first_of (Some row) other = Some row
first_of None other = other

-- Of an id that was given by the beginning: the tuple that is there now, else the one that was put
-- aside.
abbrev pub owed_at : SnapshotEncoder → Tuples → ℕ → Option Tuple
owed_at snapshot now id =
    if nat_lt id snapshot.next then first_of (get now id) (get (aside_of snapshot) id) else None

-- The snapshot began with the state `begun`, these bytes of it are written, and these tuples are
-- there now:
pub record Owes (begun : State) (snapshot : SnapshotEncoder) (bytes : List ℕ) (now : Tuples) :
    Type 0 where
  -- what is written, and the tuples from the id `from` on, are the next id and all its tuples;
  pub parts : bytes ++ flat_map (placed written).spell (entries_from snapshot.from begun.bag)
      ≡ number.spell begun.next ++ (listed (placed written)).spell (entries begun.bag)
  -- each of those tuples is there still, or was put aside;
  pub owed : (id : ℕ) → snapshot.from ≤ id → get begun.bag id ≡ owed_at snapshot now id
  -- what was kept for its clients is there, to be written last;
  pub clients : (snapshot.book ≡ begun.book) × (snapshot.count ≡ length (entries begun.book))
  -- and all that was spelled has a spelling.
  pub fits : (id : ℕ) → id < snapshot.from
      → IfSome (get begun.bag id) (λ row. (placed written).Fits (id, row))
  pub known : number.Fits begun.next

-- The tuple of this id may be taken: it is written, or not of the snapshot, or put aside.
abbrev pub IsSafe : SnapshotEncoder → Tuples → ℕ → Type 0
IsSafe snapshot now id =
    snapshot.from ≤ id → id < snapshot.next
    → (row : Tuple) → get now id ≡ Some row → get (aside_of snapshot) id ≡ Some row

-- All its tuples are written.
abbrev pub IsThrough : State → SnapshotEncoder → Type 0
IsThrough begun snapshot = (id : ℕ) → snapshot.from ≤ id → get begun.bag id ≡ None

-- ---- its next tuple

-- a tuple with its id that is lent
abbrev pub seen : Option (ℕ × Bor Tuple) → Option (ℕ × Tuple)
seen None = None
seen (Some e) = Some (e.0, e.1.now)

-- This is the first of the tuples from an id on and below another one; none if there is none.
pub record IsFirst (rows : Tuples) (from next : ℕ) (found : Option (ℕ × Tuple)) : Type 0 where
  pub there : IfSome found (λ e. get rows e.0 ≡ Some e.1)
  pub above : IfSome found (λ e. from ≤ e.0)
  pub below : IfSome found (λ e. e.0 < next)
  pub least : IfSome found (λ e. (k : ℕ) → from ≤ k → k < e.0 → get rows k ≡ None)
  pub none : IfNone found ((k : ℕ) → from ≤ k → k < next → get rows k ≡ None)

-- This is the first of the tuples that the snapshot owes from an id on; nothing if it owes none.
pub record IsFirstOwed (snapshot : SnapshotEncoder) (now : Tuples) (from : ℕ)
    (found : Option (ℕ × Tuple))
    : Type 0 where
  pub there : IfSome found (λ e. owed_at snapshot now e.0 ≡ Some e.1)
  pub above : IfSome found (λ e. from ≤ e.0)
  pub below : IfSome found (λ e. e.0 < snapshot.next)
  pub least : IfSome found (λ e. (k : ℕ) → from ≤ k → k < e.0 → owed_at snapshot now k ≡ None)
  pub none : IfNone found ((k : ℕ) → from ≤ k → owed_at snapshot now k ≡ None)

-- that of the lesser id, and the first one if both have the same
abbrev pub earlier_of : Option (ℕ × Tuple) → Option (ℕ × Tuple) → Option (ℕ × Tuple)
earlier_of None other = other
earlier_of (Some one) None = Some one
earlier_of (Some one) (Some other) = if nat_lt other.0 one.0 then Some other else Some one
