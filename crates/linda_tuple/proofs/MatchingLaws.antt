-- What follows if a template matches a tuple.
use Rattle.std.proofs.Common.{◌≡◌, true, List, [], ◌∷◌}
use Rattle.std.specs.Prelude.{IsTrue}
use Rattle.std.specs.List.{AllZip}
use Rattle.std.proofs.lemmas.Bool.{false≢true, and_parts}
use Rattle.linda_tuple.specs.declared.atom.Atom.{Atom}
use Rattle.linda_tuple.specs.declared.pattern.Pattern.{Pattern}
use Rattle.linda_tuple.specs.declared.pattern.Pattern.TheVariants as patterns
use Rattle.linda_tuple.specs.Tuple.{Tuple}
use Rattle.linda_tuple.specs.Template.{Template}
use Rattle.linda_tuple.specs.Matching.{Matches, are_fit, is_fit, is_match}
use Rattle.linda_tuple.specs.Sameness.{same_atom, same_atom-decides}

-- The pattern fits the atom.
abbrev pub Fits : Pattern → Atom → Type 0
Fits pattern atom = IsTrue (is_fit pattern atom)

-- A value fits only itself.
pub fits_itself : (v atom : Atom) → Fits (patterns.Value v) atom → v ≡ atom
fits_itself v atom fits = (same_atom-decides v atom).0 fits

all_fit : (ps : List Pattern) (xs : List Atom) → are_fit ps xs ≡ true → AllZip Fits ps xs
all_fit [] [] e = tt
all_fit [] (x ∷ xs) e = absurd (false≢true e)
all_fit (p ∷ ps) [] e = absurd (false≢true e)
all_fit (p ∷ ps) (x ∷ xs) e = let parts = and_parts (is_fit p x) (are_fit ps xs) e in (parts.0, all_fit ps xs parts.1)

-- The parts of a match.
pub record Matched (template : Template) (tuple : Tuple) : Type 0 where
  pub tag : template.tag ≡ tuple.tag
  pub fields : AllZip Fits template.fields tuple.fields

pub matched : (template : Template) (tuple : Tuple) → Matches template tuple → Matched template tuple
unfolding is_match
matched template tuple matches =
    let parts = and_parts (same_atom template.tag tuple.tag) (are_fit template.fields tuple.fields) matches in
    record { tag = (same_atom-decides template.tag tuple.tag).0 parts.0; fields = all_fit template.fields tuple.fields parts.1 }
