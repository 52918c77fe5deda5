-- Reading of a snapshot, which looks for entries with rising keys, each in its ranges.
use Rattle.std.specs.Prelude.{◌≡◌, ℕ, ◌<◌, ◌≤◌, ◌^◌, List, ◌++◌, length}
use Rattle.std.specs.List.{flat_map, AllByRecursion}
use Rattle.std.specs.Ordering.{nat_cmp}
use Rattle.std.specs.FinMap.{FinMap, entries}
use Rattle.linda_tuple.specs.declared.form.Form.{Form}
use Rattle.linda_tuple.specs.Tuple.{Tuple}
use Rattle.linda_codec.specs.Formats.{Format}
use Rattle.linda_codec.specs.declared.fault.ReadFault.{ReadFault}
use Rattle.linda_codec.specs.declared.fault.ReadFault.TheVariants as reading
use Rattle.linda_book.specs.Entries.{Entry}
use Rattle.linda_wire.specs.declared.limits.TheConstants.{NUMBER_LIMIT}
use Rattle.linda_store_state.specs.State.{State}
use Rattle.linda_snap.specs.Snapshot.{listed, IsSnapshot}
use Rattle.linda_snap.specs.declared.reading.SnapshotFault.{SnapshotFault}
use Rattle.linda_snap.specs.declared.reading.SnapshotFault.TheVariants.{NoSnapshot, Memory}

-- The bytes begin with these entries: so many of them, each of them good.
pub record IsRun {X : Type 0} (f : Format (ℕ × X)) (Good : ℕ × X → Type 0) (count : ℕ)
    (bytes : List ℕ) (es : List (ℕ × X)) (rest : List ℕ) : Type 0 where
  pub parts : bytes ≡ flat_map f.spell es ++ rest
  pub count_is : length es ≡ count
  pub fits : AllByRecursion f.Fits es
  pub good : AllByRecursion Good es

-- The bytes do not begin so with the entries of any map.
abbrev pub IsNoRun : {X : Type 0} → Format (ℕ × X) → (ℕ × X → Type 0) → ℕ → List ℕ → Type 0
IsNoRun {X = X} f Good count bytes =
    (m : FinMap nat_cmp X) (rest : List ℕ) → IsRun f Good count bytes (entries m) rest → ⊥

-- The bytes begin with a count that is not above the limit, and so many entries, each of them good.
pub record IsListed {X : Type 0} (f : Format (ℕ × X)) (Good : ℕ × X → Type 0) (limit : ℕ)
    (bytes : List ℕ) (es : List (ℕ × X)) (rest : List ℕ) : Type 0 where
  pub parts : bytes ≡ (listed f).spell es ++ rest
  pub fits : (listed f).Fits es
  pub few : length es ≤ limit
  pub good : AllByRecursion Good es

-- The bytes do not begin so with the entries of any map.
abbrev pub IsNotListed : {X : Type 0} → Format (ℕ × X) → (ℕ × X → Type 0) → ℕ → List ℕ → Type 0
IsNotListed {X = X} f Good limit bytes =
    (m : FinMap nat_cmp X) (rest : List ℕ) → IsListed f Good limit bytes (entries m) rest → ⊥

-- The bytes are a snapshot of no state in the form.
abbrev pub IsNoSnapshot : Form → List ℕ → Type 0
IsNoSnapshot form bytes = (st : State) → IsSnapshot form bytes st → ⊥

-- A count of four bytes has no other limit.
abbrev pub ANY_COUNT : ℕ
ANY_COUNT = 2 ^ 32

-- The id is at least 1 and below the next one.
abbrev pub IsPlacedBelow : ℕ → ℕ × Tuple → Type 0
IsPlacedBelow next e = (1 ≤ e.0) × (e.0 < next)

-- The number is at least 1 and below the limit.
abbrev pub IsNumbered : ℕ × Entry → Type 0
IsNumbered e = (1 ≤ e.1.0) × (e.1.0 < NUMBER_LIMIT)

-- What a fault of reading says of a snapshot.
abbrev pub fault_of_read : ReadFault → SnapshotFault
fault_of_read reading.Memory = Memory
fault_of_read reading.Short = NoSnapshot
fault_of_read (reading.BadKind left) = NoSnapshot
fault_of_read (reading.BadBool left) = NoSnapshot
fault_of_read (reading.BadText left) = NoSnapshot
fault_of_read (reading.TooMany left) = NoSnapshot
fault_of_read (reading.LongText left) = NoSnapshot
