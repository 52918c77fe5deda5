-- Tags as JSON: how many tuples there are of each tag and number of fields.
use Rattle.std.specs.Prelude.{◌≡◌, ℕ, ◌-◌, ◌^◌, Bool, true, false, List, [], ◌∷◌, ◌++◌, codes}
use Rattle.std.specs.Prelude.{take}
use Rattle.std.specs.List.{flat_map}
use Rattle.std.specs.List.Sorted.{IsPermutation, IsNonDecreasingBy}
use Rattle.linda_shared_listing.specs.declared.kinds.ListedKind.{ListedKind}
use Rattle.linda_inspect.specs.Json.{json_atom, json_member}

-- How many tuples are missing to as many as there may be at most.
abbrev pub to_go : ListedKind → ℕ
to_go row = (2 ^ 64 - 1) - row.tuples

-- The rows are the first of all these, so many at most, if those with more tuples come first.
pub record AreMost (all : List ListedKind) (limit : ℕ) (rows : List ListedKind) : Type 0 where
  pub sorted : List ListedKind
  pub same : IsPermutation all sorted
  pub most : IsNonDecreasingBy to_go sorted
  pub first : rows ≡ take limit sorted

-- A number of fields, and how many tuples there are, up to the end of the row.
unfoldable pub json_of_kind : ℕ → ℕ → List ℕ
json_of_kind fields tuples =
    json_member (codes ",\"fields\":") fields ++ json_member (codes ",\"tuples\":") tuples
    ++ codes "}"

-- A tag with a number of fields, and how many tuples have both.
unfoldable pub json_tag : ListedKind → List ℕ
json_tag row = codes "{\"tag\":" ++ json_atom row.tag ++ json_of_kind row.fields row.tuples

-- The first of them.
unfoldable pub json_first_tag : ListedKind → List ℕ
json_first_tag row = codes "\n" ++ json_tag row

-- A later one, after a comma.
unfoldable pub json_later_tag : ListedKind → List ℕ
json_later_tag row = codes ",\n" ++ json_tag row

-- Each of them on a line of its own.
unfoldable pub json_tags : List ListedKind → List ℕ
json_tags [] = []
json_tags (row ∷ rows) = json_first_tag row ++ flat_map json_later_tag rows

-- Whether they are all, and the end of the object.
unfoldable pub json_whole : Bool → List ℕ
json_whole true = codes "\n],\n\"whole\":true\n}\n"
json_whole false = codes "\n],\n\"whole\":false\n}\n"

-- Each of them, and the end of the object.
unfoldable pub json_tags_to_end : List ListedKind → Bool → List ℕ
json_tags_to_end rows is_whole = json_tags rows ++ json_whole is_whole

-- The whole object.
unfoldable pub json_tag_page : List ListedKind → Bool → List ℕ
json_tag_page rows is_whole = codes "{\n\"tags\":[" ++ json_tags_to_end rows is_whole
