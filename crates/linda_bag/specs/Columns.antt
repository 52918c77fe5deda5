-- Indexes of the tuples of one kind by the field at one position, and when they are right.
use Rattle.std.specs.Prelude.{◌≡◌, ◌≤◌, ◌<◌, ℕ, None, Some, All, slice_get}
use Rattle.std.specs.FinMap as map
use Rattle.linda_tuple.specs.declared.atom.Atom.{Atom}
use Rattle.linda_tuple.specs.declared.pattern.Pattern.{Pattern}
use Rattle.linda_tuple.specs.declared.pattern.Pattern.TheVariants as patterns
use Rattle.linda_tuple.specs.contracts.atom.AtomOrd.TheImpl as atom_ord
use Rattle.linda_tuple.specs.Tuple.{Tuple}
use Rattle.linda_tuple.specs.Template.{Template}
use Rattle.linda_tuple.specs.Matching.{Matches}
use Rattle.linda_bag.specs.FreeMatch.{Bagged}
use Rattle.linda_bag.specs.Filing.{Rows, IsFiled}
use Rattle.linda_bag.specs.Ids.{IsOf}
use Rattle.linda_bag.specs.declared.column.Column.{Column}
use Rattle.linda_bag.specs.declared.columns.Columns.{Columns}

-- A template that asks for no value: it matches each tuple of its tag and number of fields.
abbrev pub AsksNoValue : Template → Type 0
AsksNoValue template = All (λ (p : Pattern). p ≡ patterns.Any) template.fields

-- Under each value are ids, each under one. All of them are below `upto`, and each tuple of the
-- kind below that has its id under the field that it has at the position. There may be others.
pub record IsColumn (bag : Bagged) (next : ℕ) (column : Column) : Type 0 where
  pub values : Rows Atom
  pub kind : AsksNoValue column.kind
  pub below : column.upto ≤ next
  pub filed : IsFiled atom_ord.ghosts.cmp IsOf (λ v. Some v) column.ids values
  pub each : (k : ℕ) (row : Tuple) (v : Atom) → map.get bag k ≡ Some row
      → Matches column.kind row → slice_get row.fields column.position ≡ Some v
      → k < column.upto → values k ≡ Some v
  pub above : (k : ℕ) → column.upto ≤ k → values k ≡ None

-- Each of them is right beside the bag, whose ids to come are from `next` on.
abbrev pub AreColumns : Bagged → ℕ → Columns → Type 0
AreColumns bag next columns = All (IsColumn bag next) columns.items.items

-- Columns that were right are so still.
abbrev pub StaysColumn : Bagged → ℕ → Column → Column → Type 0
StaysColumn bag next old new = IsColumn bag next old → IsColumn bag next new
