-- Requests that ask for tuples of one tag and one number of fields, by the position of the first
-- value of their template.
use Rattle.std.specs.Prelude.{ℕ, nat_lt, Bool, false, ◌&&◌, List, length, Option, None, Some}
use Rattle.std.specs.Prelude.{slice_get}
use Rattle.std.specs.Ordering.{nat_cmp}
use Rattle.linda_tuple.specs.declared.atom.Atom.{Atom}
use Rattle.linda_bag.specs.Candidates.{first_among}
use Rattle.linda_bag.specs.Filing.{Rows, IsFiled}
use Rattle.linda_hold.specs.declared.asked.Asked.{Asked}
use Rattle.linda_hold.specs.declared.group.Group.{Group}
use Rattle.linda_hold.specs.declared.first_value_index.FirstValueIndex.{FirstValueIndex}
use Rattle.linda_hold.specs.FirstValue.{later_of}
use Rattle.linda_hold.specs.Group.{HasGroup, is_reached}

-- the request, if its template begins with its first value, or has none
abbrev pub if_early : Option ℕ → Asked → Option Asked
if_early None asked = Some asked
if_early (Some position) asked = None

abbrev pub early_at : Option Asked → Option Asked
early_at None = None
early_at (Some asked) = if_early (later_of asked) asked

abbrev pub early_of : Rows Asked → Rows Asked
early_of asked q = early_at (asked q)

-- The group has the numbers of the early ones.
abbrev pub HasEarly : Group → Rows Asked → Type 0
HasEarly early asked = HasGroup early (early_of asked)

-- Each number is in the group of the position of its request's first value, or with the early ones.
abbrev pub HasPositions : FirstValueIndex → Rows Asked → Type 0
HasPositions positions asked =
    HasEarly positions.early asked
    × IsFiled nat_cmp HasGroup later_of positions.later asked

-- whether a tuple with these fields may answer the request, if its first value is before this
-- position
abbrev pub is_met_by : ℕ → List Atom → Option ℕ → Asked → Bool
is_met_by end fields None asked = is_reached (first_among fields) (Some asked)
is_met_by end fields (Some position) asked =
    nat_lt position end && is_reached (slice_get fields position) (Some asked)

abbrev pub is_met_below : ℕ → List Atom → Option Asked → Bool
is_met_below end fields None = false
is_met_below end fields (Some asked) = is_met_by end fields (later_of asked) asked

-- whether there is a request that a tuple with these fields may answer
abbrev pub is_met : List Atom → Option Asked → Bool
is_met fields asked = is_met_below (length fields) fields asked
