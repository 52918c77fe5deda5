-- Hints of searches for free tuples, and when it is right to begin there.
use Rattle.std.specs.Prelude.{◌≡◌, ◌≤◌, ◌⊎◌, ℕ, Bool, true, Some}
use Rattle.std.specs.Ordering.{nat_cmp}
use Rattle.std.specs.BTreeMap as tree
use Rattle.std.specs.BTreeSet.{contains}
use Rattle.linda_tuple.specs.declared.atom.Atom.{Atom}
use Rattle.linda_tuple.specs.contracts.atom.AtomOrd.TheImpl as atom_ord
use Rattle.linda_tuple.specs.Template.{Template}
pub use Rattle.linda_bag.specs.FreeMatch.{Bagged}
use Rattle.linda_bag.specs.FreeMatch.{IsFreeMatch}
use Rattle.linda_bag.specs.Columns.{AreColumns}
use Rattle.linda_bag.specs.declared.tag_hints.Hint.{Hint}
use Rattle.linda_bag.specs.declared.tag_hints.TagHints.{TagHints}
use Rattle.linda_bag.specs.declared.search_hints.SearchHints.{SearchHints}

-- A search that begins there comes to the id.
abbrev pub Covers : Hint → ℕ → Type 0
Covers hint id = (hint.from ≤ id) ⊎ (contains nat_cmp hint.freed id ≡ true)

-- A search for the template that begins there comes to each free match, and to each tuple from the
-- next id on.
pub record IsRight (bag : Bagged) (passed : ℕ → Bool) (next : ℕ) (hint : Hint) : Type 0 where
  pub below : hint.from ≤ next
  pub each : (k : ℕ) → IsFreeMatch bag hint.template passed k → Covers hint k

-- Each hint is right, and is under the tag of its template.
abbrev pub AreBegun : Bagged → (ℕ → Bool) → ℕ → TagHints → Type 0
AreBegun bag passed next hints =
    (tag : Atom) (hint : Hint)
    → tree.get atom_ord.ghosts.cmp hints.by_tag tag ≡ Some hint
    → (hint.template.tag ≡ tag) × IsRight bag passed next hint

-- If the template has no free match below the id, right hints stay right.
abbrev pub Begins : Template → ℕ → TagHints → TagHints → Type 0
Begins template from old new =
    (bag : Bagged) (passed : ℕ → Bool) (next : ℕ)
    → from ≤ next
    → ((k : ℕ) → IsFreeMatch bag template passed k → from ≤ k)
    → AreBegun bag passed next old → AreBegun bag passed next new

-- So are all hints, and the columns.
abbrev pub AreRight : Bagged → (ℕ → Bool) → ℕ → SearchHints → Type 0
AreRight bag passed next hints =
    AreBegun bag passed next hints.tags × AreColumns bag next hints.columns
