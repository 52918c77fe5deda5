-- Codes of an atom, a row, a pattern and a shape, for a model's value that holds one.
use Rattle.std.specs.Prelude.{◌≡◌, ℕ, ℤ, ◌⊎◌, Bool, true, false, List, refl}
use Rattle.std.specs.Coded.{Coded, code_by, coded×, coded⊎, coded_ℕ, coded_ℤ, coded_bool}
use Rattle.std.specs.Coded.{coded_list}
use Rattle.std.proofs.Common.{inl, inr}
use Rattle.linda_tuple.specs.declared.atom.Atom.{Atom}
use Rattle.linda_tuple.specs.declared.atom.Atom.TheVariants as atoms
use Rattle.linda_tuple.specs.declared.pattern.Pattern.{Pattern}
use Rattle.linda_tuple.specs.declared.pattern.Pattern.TheVariants as patterns
use Rattle.linda_tuple.specs.Tuple.{Tuple}
use Rattle.linda_tuple.specs.Template.{Template}

abbrev pub atom_parts : Atom → ℤ ⊎ (List ℕ ⊎ Bool)
atom_parts (atoms.Int n) = inl n
atom_parts (atoms.Text t) = inr (inl t)
atom_parts (atoms.Bool b) = inr (inr b)

abbrev pub atom_of_parts : ℤ ⊎ (List ℕ ⊎ Bool) → Atom
atom_of_parts (inl n) = atoms.Int n
atom_of_parts (inr (inl t)) = atoms.Text t
atom_of_parts (inr (inr b)) = atoms.Bool b

abbrev pub atom_again : (a : Atom) → atom_of_parts (atom_parts a) ≡ a
atom_again (atoms.Int n) = refl
atom_again (atoms.Text t) = refl
atom_again (atoms.Bool b) = refl

-- the code of an atom
abbrev pub atom_code : Coded Atom
atom_code =
    code_by (ℤ ⊎ (List ℕ ⊎ Bool)) (coded⊎ coded_ℤ (coded⊎ (coded_list coded_ℕ) coded_bool))
    atom_parts atom_of_parts atom_again

-- the code of a row
abbrev pub tuple_code : Coded Tuple
tuple_code =
    code_by (Atom × List Atom) (coded× atom_code (coded_list atom_code)) (λ r. (r.tag, r.fields))
    (λ p. record { tag = p.0; fields = p.1 }) (λ _. refl)

abbrev pub pattern_parts : Pattern → Atom ⊎ (Bool ⊎ Bool)
pattern_parts (patterns.Value v) = inl v
pattern_parts patterns.IntFormal = inr (inl true)
pattern_parts patterns.TextFormal = inr (inl false)
pattern_parts patterns.BoolFormal = inr (inr true)
pattern_parts patterns.Any = inr (inr false)

abbrev pub pattern_of_parts : Atom ⊎ (Bool ⊎ Bool) → Pattern
pattern_of_parts (inl v) = patterns.Value v
pattern_of_parts (inr (inl true)) = patterns.IntFormal
pattern_of_parts (inr (inl false)) = patterns.TextFormal
pattern_of_parts (inr (inr true)) = patterns.BoolFormal
pattern_of_parts (inr (inr false)) = patterns.Any

abbrev pub pattern_again : (p : Pattern) → pattern_of_parts (pattern_parts p) ≡ p
pattern_again (patterns.Value v) = refl
pattern_again patterns.IntFormal = refl
pattern_again patterns.TextFormal = refl
pattern_again patterns.BoolFormal = refl
pattern_again patterns.Any = refl

-- the code of a pattern
abbrev pub pattern_code : Coded Pattern
pattern_code =
    code_by (Atom ⊎ (Bool ⊎ Bool)) (coded⊎ atom_code (coded⊎ coded_bool coded_bool)) pattern_parts
    pattern_of_parts pattern_again

-- the code of a shape
abbrev pub template_code : Coded Template
template_code =
    code_by (Atom × List Pattern) (coded× atom_code (coded_list pattern_code))
    (λ s. (s.tag, s.fields)) (λ p. record { tag = p.0; fields = p.1 }) (λ _. refl)
