-- Requests whose templates have their first value at one position, or have none: which of them a
-- tuple may answer, by the field there.
use Rattle.std.specs.Prelude.{◌≡◌, ℕ, Bool, ◌||◌, Option, None, Some}
use Rattle.std.specs.Option.{is_some}
use Rattle.std.specs.FinMap.{contains_key}
use Rattle.linda_tuple.specs.declared.atom.Atom.{Atom}
use Rattle.linda_tuple.specs.contracts.atom.AtomOrd.TheImpl as atom_ord
use Rattle.linda_bag.specs.Filing.{Rows, row_at, placed}
use Rattle.linda_bag.specs.Ids.{Many}
use Rattle.linda_hold.specs.declared.asked.Asked.{Asked}
use Rattle.linda_hold.specs.declared.group.Group.{Group}
use Rattle.linda_bag.specs.FirstFieldIndex.{HasFirstFields}
use Rattle.linda_hold.specs.FirstValue.{first_of}

-- the request, if its template has no value
abbrev pub if_unkeyed : Option Atom → Asked → Option Asked
if_unkeyed None asked = Some asked
if_unkeyed (Some v) asked = None

abbrev pub unkeyed_at : Option Asked → Option Asked
unkeyed_at None = None
unkeyed_at (Some asked) = if_unkeyed (first_of asked) asked

abbrev pub unkeyed_of : Rows Asked → Rows Asked
unkeyed_of asked q = unkeyed_at (asked q)

-- the request, if this is the first value of its template
abbrev pub keyed_at : Option Atom → Option Asked → Option Asked
keyed_at None asked = None
keyed_at (Some v) asked = row_at atom_ord.ghosts.cmp v (placed first_of asked)

-- whether there is a request that a tuple with this field there may answer
abbrev pub is_reached : Option Atom → Option Asked → Bool
is_reached first asked = is_some (keyed_at first asked) || is_some (unkeyed_at asked)

-- The set has the numbers of the requests, and no others.
abbrev pub HasNumbers : Many → Rows Asked → Type 0
HasNumbers numbers asked = (q : ℕ) → contains_key numbers q ≡ is_some (asked q)

-- Each number is filed under the first value of its request's template, or is with the others.
abbrev pub HasGroup : Group → Rows Asked → Type 0
HasGroup group asked =
    HasFirstFields first_of group.firsts asked × HasNumbers group.unkeyed (unkeyed_of asked)
