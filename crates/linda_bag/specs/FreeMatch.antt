-- Free matches: tuples of a bag that a template may be answered with.
use Rattle.std.specs.Prelude.{◌≡◌, ℕ, Bool, false, Some}
use Rattle.std.specs.Ordering.{nat_cmp}
use Rattle.std.specs.BTreeMap.{BTreeMap}
use Rattle.std.specs.FinMap.{FinMap, get, from_entries}
use Rattle.linda_tuple.specs.Tuple.{Tuple}
use Rattle.linda_tuple.specs.Template.{Template}
use Rattle.linda_tuple.specs.Matching.{Matches}

-- tuples by id
abbrev pub Bagged : Type 0
Bagged = FinMap nat_cmp Tuple

-- The bag has a tuple under the id, the template matches it, and the id is not passed over.
pub record IsFreeMatch (bag : FinMap nat_cmp Tuple) (shape : Template) (passed : ℕ → Bool) (id : ℕ)
    : Type 0 where
  pub row : Tuple
  pub stored : get bag id ≡ Some row
  pub matches : Matches shape row
  pub free : passed id ≡ false

-- the finite map that a tree represents
abbrev pub rows_of : {T : Type 0} → BTreeMap ℕ T → FinMap nat_cmp T
rows_of tree = from_entries tree.entries
