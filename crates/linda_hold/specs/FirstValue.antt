-- The first value of a request's template, and where it is.
use Rattle.std.specs.Prelude.{ℕ, ◌+◌, ◌==◌, cond, List, [], ◌∷◌, Option, None, Some}
use Rattle.std.specs.Option.{option_map}
use Rattle.linda_tuple.specs.declared.atom.Atom.{Atom}
use Rattle.linda_tuple.specs.declared.pattern.Pattern.{Pattern}
use Rattle.linda_tuple.specs.declared.pattern.Pattern.TheVariants as patterns
use Rattle.linda_hold.specs.declared.asked.Asked.{Asked}

-- the first value of these patterns, which so many others are before, with how many are before it
abbrev pub value_from : ℕ → List Pattern → Option (ℕ × Atom)
value_from before [] = None
value_from before (patterns.Value v ∷ rest) = Some (before, v)
value_from before (patterns.IntFormal ∷ rest) = value_from (before + 1) rest
value_from before (patterns.TextFormal ∷ rest) = value_from (before + 1) rest
value_from before (patterns.BoolFormal ∷ rest) = value_from (before + 1) rest
value_from before (patterns.Any ∷ rest) = value_from (before + 1) rest

-- the first value, wherever it is
abbrev pub first_of : Asked → Option Atom
first_of asked = option_map (λ p. p.1) (value_from 0 asked.template.fields)

-- how many patterns are before the first value, if it does not begin the template
abbrev pub if_later : Option (ℕ × Atom) → Option ℕ
if_later None = None
if_later (Some p) = cond (p.0 == 0) None (Some p.0)

abbrev pub later_of : Asked → Option ℕ
later_of asked = if_later (value_from 0 asked.template.fields)
