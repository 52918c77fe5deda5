-- Rows under ids that rise, in a list, and in blocks.
use Rattle.std.specs.Prelude.{◌≡◌, ℕ, ◌<◌, ◌≤◌, ◌==◌, List, [], ◌∷◌, ◌++◌, map, length}
use Rattle.std.specs.Prelude.{slice_index, slice_index_or, Option, None, Some, IsSome}
use Rattle.std.specs.Prelude.{if◌then◌else◌}

-- Each id is below those after it.
abbrev pub Rises : List ℕ → Type 0
Rises ids = (i j : ℕ) → i < j → j < length ids → slice_index ids i < slice_index ids j

-- The id would go to place i: lower ids are before it, and none of those from it on is lower.
pub record IsPlace (ids : List ℕ) (id i : ℕ) : Type 0 where
  pub bound : i ≤ length ids
  pub below : (j : ℕ) → j < i → slice_index ids j < id
  pub above : (j : ℕ) → i ≤ j → j < length ids → id ≤ slice_index ids j

-- The id is below the bound, if there is one.
abbrev pub IsUnder : ℕ → Option ℕ → Type 0
IsUnder q None = Unit {0}
IsUnder q (Some bound) = q < bound

module _ {T : Type 0} where
  -- the ids of the rows
  abbrev pub ids_of : List (ℕ × T) → List ℕ
  ids_of rows = map (λ row. row.0) rows

  -- the row under the id
  abbrev pub at : List (ℕ × T) → ℕ → Option T
  at [] q = None
  at (row ∷ rows) q = if q == row.0 then Some row.1 else at rows q

  -- No row has an id above this one.
  abbrev pub AreUpTo : List (ℕ × T) → ℕ → Type 0
  AreUpTo rows most = (q : ℕ) → IsSome (at rows q) → q ≤ most

  -- The second list has what the first has, but for the id: there it has this.
  abbrev pub Sets : List (ℕ × T) → List (ℕ × T) → ℕ → Option T → Type 0
  Sets old new id row = (q : ℕ) → at new q ≡ (if q == id then row else at old q)

  -- The rows have ids that rise, none of them below this one.
  pub record IsRun (from : ℕ) (run : List (ℕ × T)) : Type 0 where
    pub rises : Rises (ids_of run)
    pub above : (j : ℕ) → j < length run → from ≤ slice_index (ids_of run) j

  -- These rows come first from the id on, and those that are not below `next` come after them; if
  -- there is no `next`, there are no others.
  pub record Begins (row_at : ℕ → Option T) (from : ℕ) (rows : List (ℕ × T)) (next : Option ℕ)
      : Type 0 where
    pub run : IsRun from rows
    pub some : 0 < length rows
    pub below : (j : ℕ) → j < length rows → IsUnder (slice_index (ids_of rows) j) next
    pub all : (q : ℕ) → from ≤ q → IsUnder q next → row_at q ≡ at rows q
    pub later : IsUnder from next

  -- the rows of the blocks, one block after another
  abbrev pub all_rows : List (ℕ × List (ℕ × T)) → List (ℕ × T)
  all_rows [] = []
  all_rows (b ∷ bs) = b.1 ++ all_rows bs

  -- The id is below those of the blocks, which begin with the first one.
  abbrev pub IsBefore : ℕ → List (ℕ × List (ℕ × T)) → Type 0
  IsBefore q [] = Unit {0}
  IsBefore q (b ∷ bs) = q < b.0

  -- Each block has a row; its rows are not below its id, and are below that of the next block; and
  -- so is its id.
  abbrev pub IsRising : List (ℕ × List (ℕ × T)) → Type 0
  IsRising [] = Unit {0}
  IsRising (b ∷ bs) =
      (0 < length b.1)
      × ((q : ℕ) → IsSome (at b.1 q) → (b.0 ≤ q) × IsBefore q bs)
      × IsBefore b.0 bs
      × IsRising bs

  -- The block at place i is the only one that may have a row under the id.
  pub record IsFor (bs : List (ℕ × List (ℕ × T))) (id i : ℕ) : Type 0 where
    pub within : i < length bs
    pub begins : 0 < i → (slice_index_or bs i (0, [])).0 ≤ id
    pub above : (j : ℕ) → i < j → j < length bs → id < (slice_index_or bs j (0, [])).0

  -- The id is that of the block at place i; there is none if there is no such block.
  abbrev pub IsFrom : List (ℕ × List (ℕ × T)) → ℕ → Option ℕ → Type 0
  IsFrom bs i None = length bs ≤ i
  IsFrom bs i (Some id) = (i < length bs) × (id ≡ (slice_index_or bs i (0, [])).0)

  -- The first block has the lower rows of the old one and its id, the other the upper rows.
  pub record Halves (old lower upper : ℕ × List (ℕ × T)) : Type 0 where
    pub rows : old.1 ≡ lower.1 ++ upper.1
    pub from : lower.0 ≡ old.0
    pub some : 0 < length lower.1
    pub others : 0 < length upper.1
    pub apart : (q : ℕ) → IsSome (at lower.1 q) → q < upper.0
    pub above : (q : ℕ) → IsSome (at upper.1 q) → upper.0 ≤ q
    pub was : IsSome (at old.1 upper.0)
