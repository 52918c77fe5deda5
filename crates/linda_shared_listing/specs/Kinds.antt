-- Kinds of tuples, and how many a server has: of each tag and number of fields.
use Rattle.std.specs.Prelude.{◌≡◌, ◌≤◌, ⊤, ℕ, true, false, List, [], ◌∷◌, Option, None, Some}
use Rattle.std.specs.Prelude.{length, min}
use Rattle.std.specs.Borrow.{Bor}
use Rattle.std.specs.Option.{option_map}
use Rattle.std.specs.Ordering.{nat_cmp}
use Rattle.std.specs.FinMap as fin
use Rattle.linda_tuple.specs.declared.atom.Atom.{Atom}
use Rattle.linda_tuple.specs.Tuple.{Tuple}
use Rattle.linda_bag.specs.Candidates.{tag_of, count_of}
use Rattle.linda_bag.specs.Filing.{IsBare}
use Rattle.linda_bag.specs.TagIndex.{IsBefore, with_head}
use Rattle.linda_bag.specs.Ids.{IsCount}
use Rattle.linda_bag.specs.declared.index_bag.kind.Kind.{Kind}
use Rattle.linda_shared_listing.specs.declared.limits.TheConstants.{MOST_AT_ONCE}
use Rattle.linda_shared_listing.specs.declared.kinds.ListedKind.{ListedKind}
use Rattle.linda_shared_listing.specs.declared.kinds.KindPage.{KindPage}

-- The kind is after the last one, if there is a last one: by its tag or, of the same tag, by its
-- number of fields.
abbrev pub IsLater : Option (Atom × ℕ) → Atom → ℕ → Type 0
IsLater None tag fields = ⊤
IsLater (Some last) tag fields = IsBefore last.0 last.1 tag fields

-- the kind that a reference names
abbrev pub head_in : Option (Bor Atom × ℕ) → Option (Atom × ℕ)
head_in named = option_map (λ h. (h.0.now, h.1)) named

-- a kind as it is listed
abbrev pub row_in : Kind → ListedKind
row_in kind = record { tag = kind.tag.now; fields = kind.fields; tuples = kind.tuples }

module _ (bag : fin.FinMap nat_cmp Tuple) where
  -- No tuple of the bag is of this kind.
  abbrev pub HasNone : Atom → ℕ → Type 0
  HasNone tag fields = IsBare (with_head tag_of count_of tag fields (fin.get bag))

  -- The row has the least kind of tuples after the last one, and how many of them there are.
  pub record IsNextKind (last : Option (Atom × ℕ)) (row : ListedKind) : Type 0 where
    pub later : IsLater last row.tag row.fields
    pub counted : IsCount (with_head tag_of count_of row.tag row.fields (fin.get bag)) row.tuples
    pub some : HasNone row.tag row.fields → ⊥
    pub least : (tag : Atom) (fields : ℕ) → IsLater last tag fields
        → IsBefore tag fields row.tag row.fields → HasNone tag fields

  -- No tuple is of a kind after the last one.
  abbrev pub IsLastHead : Option (Atom × ℕ) → Type 0
  IsLastHead last = (tag : Atom) (fields : ℕ) → IsLater last tag fields → HasNone tag fields

  -- The rows have the kinds after the last one, each the next after the one before.
  abbrev pub AreNextKinds : Option (Atom × ℕ) → List ListedKind → Type 0
  AreNextKinds last [] = ⊤
  AreNextKinds last (row ∷ rows) =
      IsNextKind last row × AreNextKinds (Some (row.tag, row.fields)) rows

-- the kind of the last row, if there are rows
abbrev pub last_head : Option (Atom × ℕ) → List ListedKind → Option (Atom × ℕ)
last_head last [] = last
last_head last (row ∷ rows) = last_head (Some (row.tag, row.fields)) rows

-- The page has the first kinds after this one, or of all, none left out between them, each with how
-- many tuples are of it; it is whole if and only if there are no others after them. It has as many
-- as are asked for, 64 at most, unless it is whole.
pub record IsKindPage (bag : fin.FinMap nat_cmp Tuple) (after : Option (Atom × ℕ)) (limit : ℕ)
    (page : KindPage) : Type 0 where
  pub rows : AreNextKinds bag after page.rows.items
  pub few : length page.rows.items ≤ limit
  pub most : length page.rows.items ≤ MOST_AT_ONCE
  pub whole : page.is_whole ≡ true → IsLastHead bag (last_head after page.rows.items)
  pub full : page.is_whole ≡ false → length page.rows.items ≡ min limit MOST_AT_ONCE
  pub more : page.is_whole ≡ false → IsLastHead bag (last_head after page.rows.items) → ⊥
