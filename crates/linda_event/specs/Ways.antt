-- Ways from the root of an event to a place in it, as the program finds and follows them.
use Rattle.std.specs.Prelude.{◌≡◌, ℕ, ◌+◌, ◌==◌, List, [], ◌∷◌, ◌++◌, Option, Some, None}
use Rattle.std.specs.Prelude.{option_map, length, slice_get, if◌then◌else◌}
use Rattle.linda_event.specs.Trees.{Kind}
use Rattle.linda_event.specs.Paths.{Place}

-- what a search for the leaf after so many others answers: its place was appended, or nothing was
-- and so many are left
abbrev pub IsFound : List (Place × Kind) → ℕ → List ℕ → List ℕ → Option ℕ → Type 0
IsFound leaves left before after None =
    option_map (λ leaf. before ++ leaf.0) (slice_get leaves left) ≡ Some after
IsFound leaves left before after (Some rest) = (after ≡ before) × (left ≡ length leaves + rest)

-- the leaf of the member of this number, as a leaf of the event above
abbrev pub leaf_under : ℕ → Place × Kind → Place × Kind
leaf_under number leaf = (number ∷ leaf.0, leaf.1)

-- what is left of the way to a place after the member of this number, if it leads there
abbrev pub way_under : ℕ → Option Place → Option Place
way_under number None = None
way_under number (Some []) = None
way_under number (Some (first ∷ rest)) = (if number == first then Some rest else None)
