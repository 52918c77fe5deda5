-- Tuples in boxes.
use Rattle.std.specs.Prelude.{ℕ, List, [], ◌∷◌, Box}
use Rattle.std.specs.declared.alloc.Global.{Global}
use Rattle.linda_tuple.specs.Tuple.{Tuple}

-- the ids with the tuples that are in their boxes
abbrev pub unboxed : List (ℕ × Box Tuple Global) → List (ℕ × Tuple)
unboxed [] = []
unboxed (e ∷ es) = (e.0, e.1.value) ∷ unboxed es
