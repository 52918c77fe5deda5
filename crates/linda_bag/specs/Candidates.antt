-- The tuples that a look-up has to look at: those that have what the template's head says.
use Rattle.std.specs.Prelude.{ℕ, List, [], ◌∷◌, Option, None, Some, length}
use Rattle.linda_tuple.specs.declared.atom.Atom.{Atom}
use Rattle.linda_tuple.specs.declared.pattern.Pattern.{Pattern}
use Rattle.linda_tuple.specs.declared.pattern.Pattern.TheVariants as patterns
use Rattle.linda_tuple.specs.contracts.atom.AtomOrd.TheImpl as atom_ord
use Rattle.linda_tuple.specs.Tuple.{Tuple}
use Rattle.linda_tuple.specs.Template.{Template}
use Rattle.linda_bag.specs.Filing.{Rows, rows_at}
use Rattle.linda_bag.specs.TagIndex.{with_head}

-- what a tuple is filed under: its tag, then the number of its fields, then its first field, if it
-- has one
abbrev pub tag_of : Tuple → Atom
tag_of row = row.tag

abbrev pub count_of : Tuple → ℕ
count_of row = length row.fields

abbrev pub first_among : List Atom → Option Atom
first_among [] = None
first_among (atom ∷ atoms) = Some atom

abbrev pub first_of : Tuple → Option Atom
first_of row = first_among row.fields

-- the value that the first pattern asks for, if it asks for one
abbrev pub first_value : List Pattern → Option Atom
first_value [] = None
first_value (patterns.Value v ∷ rest) = Some v
first_value (patterns.IntFormal ∷ rest) = None
first_value (patterns.TextFormal ∷ rest) = None
first_value (patterns.BoolFormal ∷ rest) = None
first_value (patterns.Any ∷ rest) = None

-- those of the rows whose first field is the value, if there is a value; else all rows
abbrev pub with_first : Option Atom → Rows Tuple → Rows Tuple
with_first None rows = rows
with_first (Some v) rows = rows_at atom_ord.ghosts.cmp first_of v rows

-- those of the rows that have the template's tag, as many fields as it has patterns and, if the
-- first pattern is a value, that value first
abbrev pub candidates : Template → Rows Tuple → Rows Tuple
candidates template rows =
    with_first (first_value template.fields)
    (with_head tag_of count_of template.tag (length template.fields) rows)
