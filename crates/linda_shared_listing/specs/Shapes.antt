-- Templates that match the tuples of a tag.
use Rattle.std.specs.Prelude.{ℕ, Bool, false, List, Option, None, Some}
use Rattle.std.specs.Prelude.{replicate}
use Rattle.std.specs.Global.{Vec}
use Rattle.std.specs.List.{list_any}
use Rattle.std.specs.Option.{is_some}
use Rattle.std.specs.Ordering.{nat_cmp}
use Rattle.std.specs.FinMap as fin
use Rattle.linda_tuple.specs.declared.atom.Atom.{Atom}
use Rattle.linda_tuple.specs.declared.pattern.Pattern.TheVariants as patterns
use Rattle.linda_tuple.specs.Tuple.{Tuple}
use Rattle.linda_tuple.specs.Template.{Template}
use Rattle.linda_tuple.specs.Matching.{is_match}

-- whether there is a tuple, and one of the templates matches it
abbrev pub is_matched_in : List Template → Option Tuple → Bool
is_matched_in shapes None = false
is_matched_in shapes (Some tuple) = list_any (λ shape. is_match shape tuple) shapes

-- Whether there is a tuple of this id that one of the templates matches.
abbrev pub is_matched : fin.FinMap nat_cmp Tuple → List Template → ℕ → Bool
is_matched bag shapes id = is_matched_in shapes (fin.get bag id)

-- Whether there is a tuple of this id that one of the templates matches; any tuple if there are no
-- templates.
abbrev pub is_found : fin.FinMap nat_cmp Tuple → Option (List Template) → ℕ → Bool
is_found bag None id = is_some (fin.get bag id)
is_found bag (Some shapes) id = is_matched bag shapes id

-- The template of a tag and so many fields, of any values.
abbrev pub shape_of : Atom → ℕ → Template
shape_of tag fields = record { tag = tag; fields = replicate fields patterns.Any }

-- the templates, if there are some
abbrev pub shapes_in : Option (Vec Template) → Option (List Template)
shapes_in None = None
shapes_in (Some shapes) = Some shapes.items
