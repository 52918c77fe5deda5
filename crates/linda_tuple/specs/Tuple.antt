-- A tuple as contracts see it, and the limits that every tuple keeps.
use Rattle.std.specs.Prelude.{◌≤◌, List, length, All}
use Rattle.linda_tuple.specs.declared.atom.Atom.{Atom}
use Rattle.linda_tuple.specs.declared.form.Form.{Form}
use Rattle.linda_tuple.specs.declared.form.Form.TheVariants.{Two}
use Rattle.linda_tuple.specs.Form.{most_fields}
use Rattle.linda_tuple.specs.Atom.{IsSoundIn}

-- A tag and the fields that follow it.
pub record Tuple : Type 0 where
  pub tag : Atom
  pub fields : List Atom

-- A tuple that has a spelling in the form: no more fields than there may be, and a spelling for its
-- tag and for each field.
pub record FitsIn (form : Form) (tuple : Tuple) : Type 0 where
  pub count : length tuple.fields ≤ most_fields form
  pub tag : IsSoundIn form tuple.tag
  pub fields : All (IsSoundIn form) tuple.fields

-- What every tuple keeps: the second form has a spelling for it.
abbrev pub IsWithin : Tuple → Type 0
IsWithin tuple = FitsIn Two tuple
