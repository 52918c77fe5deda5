-- The formats of atoms, tuples and templates, in each of the two forms.
use Rattle.std.specs.Prelude.{ℕ, List, [], ◌∷◌}
use Rattle.linda_tuple.specs.declared.atom.Atom.{Atom}
use Rattle.linda_tuple.specs.declared.atom.Atom.TheVariants as atoms
use Rattle.linda_tuple.specs.declared.pattern.Pattern.{Pattern}
use Rattle.linda_tuple.specs.declared.pattern.Pattern.TheVariants as patterns
use Rattle.linda_tuple.specs.declared.form.Form.{Form}
use Rattle.linda_tuple.specs.declared.form.Form.TheVariants.{One, Two}
use Rattle.linda_tuple.specs.Form.{longest_text, most_fields}
use Rattle.linda_tuple.specs.Atom.{IsSoundIn}
use Rattle.linda_tuple.specs.Tuple.{Tuple, FitsIn}
use Rattle.linda_tuple.specs.Template.{Template, IsSoundPatternIn, FitsTemplateIn}
use Rattle.linda_codec.specs.declared.kinds.TheConstants.{INTEGER, TEXT, TRUTH, INT_FORMAL}
use Rattle.linda_codec.specs.declared.kinds.TheConstants.{TEXT_FORMAL, BOOL_FORMAL, WILDCARD}
use Rattle.linda_codec.specs.Steps.{Reader}
use Rattle.linda_codec.specs.Formats.{Format, byte, short_length, integer, truth, nothing, both}
use Rattle.linda_codec.specs.Formats.{made_at, made}
use Rattle.linda_codec.specs.Formats.{known_as, sized_text, counted, no_kind, body_at, choice_at}

-- A text's length: a byte, or a number of two bytes that is not above the limit.
abbrev pub text_length : Form → Format ℕ
text_length One = byte
text_length Two = short_length (longest_text Two)

-- A text: its length and that many bytes of UTF-8.
abbrev pub text : Form → Format (List ℕ)
text form = sized_text (text_length form)

-- A kind byte, and the value of that kind.
abbrev pub spell_atom : Form → Atom → List ℕ
spell_atom form (atoms.Int n) = INTEGER ∷ integer.spell n
spell_atom form (atoms.Text t) = TEXT ∷ (text form).spell t
spell_atom form (atoms.Bool b) = TRUTH ∷ truth.spell b

-- The kinds of atoms, each with its body.
abbrev pub atom_kinds : Form → List (ℕ × Reader Atom)
atom_kinds form =
    (INTEGER, made_at (λ n. atoms.Int n) integer)
    ∷ (TEXT, made_at (λ t. atoms.Text t) (text form))
    ∷ (TRUTH, made_at (λ b. atoms.Bool b) truth) ∷ []

-- An atom of that kind, of which the kind is read.
abbrev pub atom_body_at : Form → ℕ → Reader Atom
atom_body_at form = body_at (atom_kinds form) no_kind

abbrev pub atom : Form → Format Atom
atom form =
    record {
      spell = spell_atom form;
      Fits = IsSoundIn form;
      read = choice_at (atom_kinds form) no_kind;
    }

-- A value as the atom that it is, else the one byte of its kind.
abbrev pub spell_pattern : Form → Pattern → List ℕ
spell_pattern form (patterns.Value v) = spell_atom form v
spell_pattern form patterns.IntFormal = INT_FORMAL ∷ []
spell_pattern form patterns.TextFormal = TEXT_FORMAL ∷ []
spell_pattern form patterns.BoolFormal = BOOL_FORMAL ∷ []
spell_pattern form patterns.Any = WILDCARD ∷ []

-- The kinds of patterns that are no atoms; each is only its kind byte.
abbrev pub formal_kinds : List (ℕ × Reader Pattern)
formal_kinds =
    (INT_FORMAL, made_at (λ n. patterns.IntFormal) nothing)
    ∷ (TEXT_FORMAL, made_at (λ n. patterns.TextFormal) nothing)
    ∷ (BOOL_FORMAL, made_at (λ n. patterns.BoolFormal) nothing)
    ∷ (WILDCARD, made_at (λ n. patterns.Any) nothing) ∷ []

-- An atom, as a pattern.
abbrev pub value_at : Form → Reader Pattern
value_at form = made_at (λ v. patterns.Value v) (atom form)

-- A pattern of that kind, of which the kind is read.
abbrev pub pattern_body_at : Form → ℕ → Reader Pattern
pattern_body_at form = body_at formal_kinds (value_at form)

abbrev pub pattern : Form → Format Pattern
pattern form = record {
  spell = spell_pattern form;
  Fits = IsSoundPatternIn form;
  read = choice_at formal_kinds (value_at form);
}

-- A tag, the count of the values after it, and the values.
abbrev pub tagged : {A : Type 0} → Form → Format A → Format (Atom × List A)
tagged form f = both (atom form) (counted (most_fields form) f)

-- A tuple: the tag, the count of the fields, the fields.
abbrev pub tuple : Form → Format Tuple
tuple form =
    known_as (FitsIn form)
    (made (λ p. record { tag = p.0; fields = p.1 }) (λ t. (t.tag, t.fields))
    (tagged form (atom form)))

-- A template: the tag, the count of the patterns, the patterns.
abbrev pub template : Form → Format Template
template form =
    known_as (FitsTemplateIn form)
    (made (λ p. record { tag = p.0; fields = p.1 }) (λ t. (t.tag, t.fields))
    (tagged form (pattern form)))
