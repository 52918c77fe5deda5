-- Matches of a template, and what a match binds.
use Rattle.std.specs.Prelude.{IsTrue, Bool, true, false, ◌&&◌, List, [], ◌∷◌, map, filter, zip}
use Rattle.linda_tuple.specs.declared.atom.Atom.{Atom}
use Rattle.linda_tuple.specs.declared.pattern.Pattern.{Pattern}
use Rattle.linda_tuple.specs.declared.pattern.Pattern.TheVariants as patterns
use Rattle.linda_tuple.specs.Atom.{is_int, is_text, is_bool}
use Rattle.linda_tuple.specs.Sameness.{same_atom}
use Rattle.linda_tuple.specs.Tuple.{Tuple}
use Rattle.linda_tuple.specs.Template.{Template}

-- What a pattern fits: a value fits itself, a formal each atom of its kind, a wildcard every atom.
abbrev pub is_fit : Pattern → Atom → Bool
is_fit (patterns.Value v) atom = same_atom v atom
is_fit patterns.IntFormal atom = is_int atom
is_fit patterns.TextFormal atom = is_text atom
is_fit patterns.BoolFormal atom = is_bool atom
is_fit patterns.Any atom = true

-- There are as many patterns as atoms, and at each place the pattern fits the atom.
abbrev pub are_fit : List Pattern → List Atom → Bool
are_fit [] [] = true
are_fit [] (atom ∷ atoms) = false
are_fit (pattern ∷ patterns) [] = false
are_fit (pattern ∷ patterns) (atom ∷ atoms) = is_fit pattern atom && are_fit patterns atoms

-- Whether a template matches a tuple, as a test, which filters and searches of lists take: the tags
-- are equal, there are as many fields as patterns, and at each place the pattern fits the field.
unfoldable pub is_match : Template → Tuple → Bool
is_match template tuple = same_atom template.tag tuple.tag && are_fit template.fields tuple.fields

-- A template matches a tuple.
abbrev pub Matches : Template → Tuple → Type 0
Matches template tuple = IsTrue (is_match template tuple)

-- Whether the pattern is a formal, which binds what it fits.
abbrev pub is_formal : Pattern → Bool
is_formal (patterns.Value v) = false
is_formal patterns.IntFormal = true
is_formal patterns.TextFormal = true
is_formal patterns.BoolFormal = true
is_formal patterns.Any = false

-- The atoms at the places of formals, in order.
abbrev pub bound_at : List Pattern → List Atom → List Atom
bound_at patterns atoms =
    map (λ place. place.1) (filter (λ place. is_formal place.0) (zip patterns atoms))

-- What a template binds at a tuple that it matches: the fields at the places of its formals, in
-- order.
abbrev pub bindings_of : Template → Tuple → List Atom
bindings_of template tuple = bound_at template.fields tuple.fields
