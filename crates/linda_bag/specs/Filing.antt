-- Index of ids: the ids of some rows, each filed under what its row has. A row may be of any type,
-- as a tuple or a request.
use Rattle.std.specs.Prelude.{◌≡◌, ℕ, true, false, cond, Option, None, Some}
use Rattle.std.specs.declared.cmp.Ordering.{Ordering}
use Rattle.std.specs.Ordering.{is_eq, nat_cmp}
use Rattle.std.specs.Borrow.{Bor}
use Rattle.std.specs.Option.{option_map, is_some}
use Rattle.std.specs.BTreeMap.{BTreeMap, get}
use Rattle.std.specs.BTreeSet.{BTreeSet, contains}

-- The row under each id, if there is one.
abbrev pub Rows : Type 0 → Type 0
Rows T = ℕ → Option T

module _ {T : Type 0} where
  -- no row under any id
  abbrev pub no_rows : Rows T
  no_rows q = None

  -- the rows, with this one under the id
  abbrev pub with_row : Rows T → ℕ → Option T → Rows T
  with_row rows id row q = cond (is_eq (nat_cmp id q)) row (rows q)

  -- There is no row.
  abbrev pub IsBare : Rows T → Type 0
  IsBare rows = (q : ℕ) → rows q ≡ None

  -- The set has the ids of the rows, and no others.
  abbrev pub HasIds : BTreeSet ℕ → Rows T → Type 0
  HasIds ids rows = (id : ℕ) → contains nat_cmp ids id ≡ is_some (rows id)

  -- What had the rows has them still, but for the id: there it had `before`, and now it has
  -- `after`.
  abbrev pub Refiles : (Rows T → Type 0) → (Rows T → Type 0) → ℕ → Option T → Option T → Type 0
  Refiles Old New id before after =
      (rows : Rows T) → rows id ≡ before → Old rows → New (with_row rows id after)

  -- The index has the rows, of which there is at least one; if there is no index, there is no row.
  abbrev pub IsIndexed : {S : Type 0} → (S → Rows T → Type 0) → Option S → Rows T → Type 0
  IsIndexed Has None rows = IsBare rows
  IsIndexed Has (Some id_index) rows = Has id_index rows × (IsBare rows → ⊥)

  -- What was found is the index with a part of the rows that the index has; none if that part has
  -- no rows.
  abbrev pub FindsIndex : {S : Type 0} → (Rows T → Type 0) → (S → Rows T → Type 0)
      → (Rows T → Rows T) → Option S
      → Type 0
  FindsIndex Has HasFound part found =
      (rows : Rows T) → Has rows → IsIndexed HasFound found (part rows)

module _ {K T : Type 0} where
  -- the row with its key, if it has one
  abbrev pub keyed : Option K → T → Option (K × T)
  keyed None row = None
  keyed (Some key) row = Some (key, row)

  -- where a row is filed: its key by `key_of`, and the row; none if it has no key
  abbrev pub placed : (T → Option K) → Option T → Option (K × T)
  placed key_of None = None
  placed key_of (Some row) = keyed (key_of row) row

  -- the place that two references name: a key, and the row that is filed under it
  abbrev pub place : Option (Bor K × Bor T) → Option (K × T)
  place named = option_map (λ p. (p.0.now, p.1.now)) named

module _ {K T : Type 0} (cmp : K → K → Ordering) where
  -- the row, if it is filed under the key: each is filed under one key or under none
  abbrev pub row_at : K → Option (K × T) → Option T
  row_at q None = None
  row_at q (Some place) = cond (is_eq (cmp place.0 q)) (Some place.1) None

  -- the rows that are filed under the key
  abbrev pub rows_at : (T → Option K) → K → Rows T → Rows T
  rows_at key_of q rows id = row_at q (placed key_of (rows id))

  module _ {S : Type 0} (Has : S → Rows T → Type 0) where
    -- Under each key is found an index with the rows of that key, if there are any. What is found
    -- under a key is said by a look-up, as indexes may be in a map of any kind.
    abbrev pub IsFoundBy : (K → Option S) → (K → Rows T) → Type 0
    IsFoundBy id_index_at parts = (q : K) → IsIndexed Has (id_index_at q) (parts q)

    -- Under each key is found an index with the rows to which `key_of` gives that key, if there are
    -- any.
    abbrev pub IsFound : (T → Option K) → (K → Option S) → Rows T → Type 0
    IsFound key_of id_index_at rows = IsFoundBy id_index_at (λ q. rows_at key_of q rows)

    -- The parts were found, and are found still, but for the id: it was filed by `before` and is
    -- now by `after`.
    abbrev pub RefilesFound : (K → Option S) → (K → Option S) → ℕ
        → Option (K × T) → Option (K × T) → Type 0
    RefilesFound old new id before after =
        (parts : K → Rows T)
        → ((q : K) → parts q id ≡ row_at q before)
        → IsFoundBy old parts
        → IsFoundBy new (λ q. with_row (parts q) id (row_at q after))

    -- What is found under one key changed: there the id was filed by `before`, and is now by
    -- `after`; under the others is found what was there.
    pub record RefilesUnder (old new : K → Option S) (key : K) (id : ℕ) (before after : Option T)
        : Type 0 where
      pub here : (q : K) → is_eq (cmp key q) ≡ true
          → Refiles (IsIndexed Has (old q)) (IsIndexed Has (new q)) id before after
      pub apart : (q : K) → is_eq (cmp key q) ≡ false → new q ≡ old q

    -- Under each key is an index with the rows of that key, if there are any.
    abbrev pub IsFiledBy : BTreeMap K S → (K → Rows T) → Type 0
    IsFiledBy id_indexes parts = IsFoundBy (get cmp id_indexes) parts

    -- Under each key is an index with the rows to which `key_of` gives that key, if there are any.
    abbrev pub IsFiled : (T → Option K) → BTreeMap K S → Rows T → Type 0
    IsFiled key_of id_indexes rows = IsFound key_of (get cmp id_indexes) rows

    -- The indexes had the parts, and have them still, but for the id: it was filed by `before` and
    -- is now by `after`.
    abbrev pub RefilesBy : BTreeMap K S → BTreeMap K S → ℕ → Option (K × T) → Option (K × T)
        → Type 0
    RefilesBy old new id before after = RefilesFound (get cmp old) (get cmp new) id before after

    -- One index changed: under its key the id was filed by `before`, and is now by `after`; the
    -- others are as they were.
    pub record RefilesAt (old new : BTreeMap K S) (key : K) (id : ℕ) (before after : Option T)
        : Type 0 where
      pub here : Refiles (IsIndexed Has (get cmp old key)) (IsIndexed Has (get cmp new key))
          id before after
      pub apart : (q : K) → is_eq (cmp key q) ≡ false → get cmp new q ≡ get cmp old q
