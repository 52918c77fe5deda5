-- Rows that are filed under the values that they begin with: those that are integers in one map,
-- all others in another.
use Rattle.std.specs.Prelude.{ℤ, Option, None, Some}
use Rattle.std.specs.Ordering.{int_cmp}
use Rattle.linda_tuple.specs.declared.atom.Atom.{Atom}
use Rattle.linda_tuple.specs.declared.atom.Atom.TheVariants as atoms
use Rattle.linda_tuple.specs.contracts.atom.AtomOrd.TheImpl as atom_ord
use Rattle.linda_bag.specs.declared.first_field_index.FirstFieldIndex.{FirstFieldIndex}
use Rattle.linda_bag.specs.Filing.{Rows, IsFound, IsFiled}
use Rattle.linda_bag.specs.Ids.{IsOf}
use Rattle.linda_bag.specs.Ints.{ids_at}

-- the value, if it is an integer
abbrev pub int_in : Option Atom → Option ℤ
int_in None = None
int_in (Some (atoms.Int n)) = Some n
int_in (Some (atoms.Text t)) = None
int_in (Some (atoms.Bool b)) = None

-- the value, if it is no integer
abbrev pub other_in : Option Atom → Option Atom
other_in None = None
other_in (Some (atoms.Int n)) = None
other_in (Some (atoms.Text t)) = Some (atoms.Text t)
other_in (Some (atoms.Bool b)) = Some (atoms.Bool b)

-- the row, if it begins with a value
abbrev pub if_keyed : {R : Type 0} → Option Atom → R → Option R
if_keyed None row = None
if_keyed (Some v) row = Some row

module _ {R : Type 0} (first_of : R → Option Atom) where
  abbrev pub int_of : R → Option ℤ
  int_of row = int_in (first_of row)

  abbrev pub other_of : R → Option Atom
  other_of row = other_in (first_of row)

  -- the rows that begin with a value
  abbrev pub keyed_in : Option R → Option R
  keyed_in None = None
  keyed_in (Some row) = if_keyed (first_of row) row

  abbrev pub keyed_of : Rows R → Rows R
  keyed_of rows q = keyed_in (rows q)

  -- Under each such value are the ids of the rows that begin with it.
  abbrev pub HasFirstFields : FirstFieldIndex → Rows R → Type 0
  HasFirstFields first_fields rows =
      IsFound int_cmp IsOf int_of (ids_at first_fields.ints) rows
      × IsFiled atom_ord.ghosts.cmp IsOf other_of first_fields.others rows
