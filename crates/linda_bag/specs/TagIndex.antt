-- Rows that are filed under their heads: under the tag and, there, under the number of fields.
use Rattle.std.specs.Prelude.{◌≡◌, ◌<◌, ◌⊎◌, ⊤, ℕ, Option, None, Some}
use Rattle.std.specs.declared.cmp.Ordering.{Ordering}
use Rattle.std.specs.Ordering.{nat_cmp}
use Rattle.std.specs.Borrow.{Bor}
use Rattle.std.specs.BTreeMap.Range.{IsLtBy}
use Rattle.linda_tuple.specs.declared.atom.Atom.{Atom}
use Rattle.linda_tuple.specs.contracts.atom.AtomOrd.TheImpl as atom_ord
use Rattle.linda_bag.specs.declared.tag_index.TagIndex.{TagIndex}
use Rattle.linda_bag.specs.declared.tag_index.Counts.{Counts}
use Rattle.linda_bag.specs.Filing.{Rows, rows_at, IsFiled}

module _ {T : Type 0} (count_of : T → ℕ) {S : Type 0} (Has : S → Rows T → Type 0) where
  -- Under each number of fields is an index with the rows of as many.
  abbrev pub HasCounts : Counts S → Rows T → Type 0
  HasCounts counts rows = IsFiled nat_cmp Has (λ row. Some (count_of row)) counts.groups rows

module _ {T : Type 0} (tag_of : T → Atom) (count_of : T → ℕ) where
  -- Under each head is an index with the rows that have it.
  abbrev pub HasTags : {S : Type 0} → (S → Rows T → Type 0) → TagIndex S → Rows T → Type 0
  HasTags Has tag_index rows =
      IsFiled atom_ord.ghosts.cmp (HasCounts count_of Has) (λ row. Some (tag_of row))
      tag_index.tags rows

  -- those of the rows that have the tag, and as many fields
  abbrev pub with_head : Atom → ℕ → Rows T → Rows T
  with_head tag count rows =
      rows_at nat_cmp (λ row. Some (count_of row)) count
      (rows_at atom_ord.ghosts.cmp (λ row. Some (tag_of row)) tag rows)

-- The key is after the last one, if there is a last one.
abbrev pub IsAfter : {K : Type 0} → (K → K → Ordering) → Option (Bor K) → K → Type 0
IsAfter cmp None key = ⊤
IsAfter cmp (Some last) key = IsLtBy cmp last.now key

-- The first head is before the second: its tag is, or it has the same tag and fewer fields.
abbrev pub IsBefore : Atom → ℕ → Atom → ℕ → Type 0
IsBefore tag count later more =
    IsLtBy atom_ord.ghosts.cmp tag later ⊎ ((tag ≡ later) × (count < more))

-- The head is after the last one, if there is a last one.
abbrev pub IsPast : Option (Bor Atom × ℕ) → Atom → ℕ → Type 0
IsPast None tag count = ⊤
IsPast (Some last) tag count = IsBefore last.0.now last.1 tag count
