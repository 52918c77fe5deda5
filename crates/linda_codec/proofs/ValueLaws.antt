-- The formats of atoms, tuples and templates are lawful.
use Rattle.std.proofs.Common.{◌≡◌, ◌≤◌, ℕ, length, List, [], ◌∷◌, ◌++◌, Ok, refl, arith}
use Rattle.linda_tuple.specs.declared.atom.Atom.{Atom}
use Rattle.linda_tuple.specs.declared.atom.Atom.TheVariants as atoms
use Rattle.linda_tuple.specs.declared.pattern.Pattern.{Pattern}
use Rattle.linda_tuple.specs.declared.pattern.Pattern.TheVariants as patterns
use Rattle.linda_tuple.specs.declared.form.Form.{Form}
use Rattle.linda_tuple.specs.declared.form.Form.TheVariants.{One, Two}
use Rattle.linda_tuple.specs.Form.{longest_text, most_fields}
use Rattle.linda_tuple.specs.Atom.{IsSound, IsSoundIn}
use Rattle.linda_tuple.specs.Tuple.{Tuple, FitsIn, IsWithin}
use Rattle.linda_tuple.specs.Template.{Template, IsSoundPattern, IsSoundPatternIn, FitsTemplateIn, IsWithinTemplate}
use Rattle.linda_codec.specs.declared.kinds.TheConstants.{INTEGER, TEXT, TRUTH, INT_FORMAL, TEXT_FORMAL, BOOL_FORMAL, WILDCARD}
use Rattle.linda_codec.specs.Lawful.{IsFormat}
use Rattle.linda_codec.specs.Formats.{no_kind}
use Rattle.linda_codec.specs.Values as format
use Rattle.linda_codec.proofs.FormatLaws.{byte_is, short_length_is, integer_is, truth_is, nothing_is, both_is, body_is}
use Rattle.linda_codec.proofs.FormatLaws.{made_again, made_is, known_as_is, sized_text_is, counted_is, no_kind_is}
use Rattle.linda_codec.proofs.FormatLaws.{choice_is, AreBodies}

-- The length of a text that has a spelling has one.
length_fits : (form : Form) (n : ℕ) → n ≤ longest_text form → (format.text_length form).Fits n
length_fits One n short = omega (arith, short)
length_fits Two n short = (short, omega (arith, short))

-- A length that has a spelling is that of a text that has one.
length_short : (form : Form) (n : ℕ) → (format.text_length form).Fits n → n ≤ longest_text form
length_short One n fits = omega (arith, fits)
length_short Two n fits = fits.0

text_length_is : (form : Form) → IsFormat (format.text_length form)
text_length_is One = byte_is
text_length_is Two = short_length_is (longest_text Two)

pub text_is : (form : Form) → IsFormat (format.text form)
text_is form = sized_text_is (text_length_is form)

-- ---- atoms

atom_bodies : (form : Form) → AreBodies (format.spell_atom form) (IsSoundIn form) (format.atom_kinds form)
atom_bodies form = (
  body_is integer_is (format.spell_atom form) (IsSoundIn form) (INTEGER ∷ []) (λ n. atoms.Int n) (λ n. refl) (λ n fits. fits),
  (
    body_is (text_is form) (format.spell_atom form) (IsSoundIn form) (TEXT ∷ []) (λ t. atoms.Text t)
        (λ t. refl) (λ t fits. (length_short form (length t) fits.0, fits.1)),
    (body_is truth_is (format.spell_atom form) (IsSoundIn form) (TRUTH ∷ []) (λ b. atoms.Bool b) (λ b. refl) (λ b fits. fits), tt),
  ),
)

atom_again : (form : Form) (a : Atom) (rest : List ℕ) → IsSoundIn form a → (format.atom form).read ((format.atom form).spell a ++ rest) ≡ Ok (a, rest)
atom_again form (atoms.Int n) rest sound = made_again integer_is (λ n. atoms.Int n) n rest sound
atom_again form (atoms.Text t) rest sound = made_again (text_is form) (λ t. atoms.Text t) t rest (length_fits form (length t) sound.0, sound.1)
atom_again form (atoms.Bool b) rest sound = made_again truth_is (λ b. atoms.Bool b) b rest sound

pub atom_is : (form : Form) → IsFormat (format.atom form)
atom_is form =
    choice_is (format.spell_atom form) (IsSoundIn form) (format.atom_kinds form) no_kind (atom_bodies form)
    (no_kind_is (format.spell_atom form) (IsSoundIn form)) (atom_again form)

-- ---- patterns

formal_bodies : (form : Form) → AreBodies (format.spell_pattern form) (IsSoundPatternIn form) format.formal_kinds
formal_bodies form = (
  body_is nothing_is (format.spell_pattern form) (IsSoundPatternIn form) (INT_FORMAL ∷ []) (λ n. patterns.IntFormal) (λ n. refl) (λ n fits. fits),
  (
    body_is nothing_is (format.spell_pattern form) (IsSoundPatternIn form) (TEXT_FORMAL ∷ []) (λ n. patterns.TextFormal) (λ n. refl) (λ n fits. fits),
    (
      body_is nothing_is (format.spell_pattern form) (IsSoundPatternIn form) (BOOL_FORMAL ∷ []) (λ n. patterns.BoolFormal) (λ n. refl) (λ n fits. fits),
      (body_is nothing_is (format.spell_pattern form) (IsSoundPatternIn form) (WILDCARD ∷ []) (λ n. patterns.Any) (λ n. refl) (λ n fits. fits), tt),
    ),
  ),
)

value_again : (form : Form) (a : Atom) (rest : List ℕ) → IsSoundIn form a
    → format.value_at form ((format.atom form).spell a ++ rest) ≡ Ok (patterns.Value a, rest)
value_again form a rest sound = made_again (atom_is form) (λ v. patterns.Value v) a rest sound

pattern_again : (form : Form) (p : Pattern) (rest : List ℕ) → IsSoundPatternIn form p
    → (format.pattern form).read ((format.pattern form).spell p ++ rest) ≡ Ok (p, rest)
pattern_again form (patterns.Value (atoms.Int n)) rest sound = value_again form (atoms.Int n) rest sound
pattern_again form (patterns.Value (atoms.Text t)) rest sound = value_again form (atoms.Text t) rest sound
pattern_again form (patterns.Value (atoms.Bool b)) rest sound = value_again form (atoms.Bool b) rest sound
pattern_again form patterns.IntFormal rest sound = refl
pattern_again form patterns.TextFormal rest sound = refl
pattern_again form patterns.BoolFormal rest sound = refl
pattern_again form patterns.Any rest sound = refl

pub pattern_is : (form : Form) → IsFormat (format.pattern form)
pattern_is form =
    choice_is (format.spell_pattern form) (IsSoundPatternIn form) format.formal_kinds (format.value_at form) (formal_bodies form)
    (body_is (atom_is form) (format.spell_pattern form) (IsSoundPatternIn form) [] (λ v. patterns.Value v) (λ v. refl) (λ v fits. fits)) (pattern_again form)

-- ---- tuples and templates

pub tuple_is : (form : Form) → IsFormat (format.tuple form)
tuple_is form =
    known_as_is (made_is (both_is (atom_is form) (counted_is (most_fields form) (atom_is form)))
    (λ p. record { tag = p.0; fields = p.1 }) (λ t. (t.tag, t.fields)) (λ p. refl) (λ t. refl))
    (FitsIn form) (λ t fits. record { count = fits.1.0; tag = fits.0; fields = fits.1.1 }) (λ t within. (within.tag, (within.count, within.fields)))

pub template_is : (form : Form) → IsFormat (format.template form)
template_is form =
    known_as_is (made_is (both_is (atom_is form) (counted_is (most_fields form) (pattern_is form)))
    (λ p. record { tag = p.0; fields = p.1 }) (λ t. (t.tag, t.fields)) (λ p. refl) (λ t. refl))
    (FitsTemplateIn form) (λ t fits. record { count = fits.1.0; tag = fits.0; fields = fits.1.1 }) (λ t within. (within.tag, (within.count, within.fields)))

-- ---- what has a spelling in a form is within the limits

sound_within : (form : Form) (a : Atom) → IsSoundIn form a → IsSound a
sound_within One (atoms.Int n) sound = sound
sound_within One (atoms.Text t) sound = (omega (arith, sound.0), sound.1)
sound_within One (atoms.Bool b) sound = sound
sound_within Two a sound = sound

pattern_within : (form : Form) (p : Pattern) → IsSoundPatternIn form p → IsSoundPattern p
pattern_within form (patterns.Value v) sound = sound_within form v sound
pattern_within form patterns.IntFormal sound = sound
pattern_within form patterns.TextFormal sound = sound
pattern_within form patterns.BoolFormal sound = sound
pattern_within form patterns.Any sound = sound

few_within : (form : Form) (n : ℕ) → n ≤ most_fields form → n ≤ most_fields Two
few_within One n few = omega (arith, few)
few_within Two n few = few

pub tuple_within : (form : Form) (t : Tuple) → FitsIn form t → IsWithin t
tuple_within form t fits = record {
  count = few_within form (length t.fields) fits.count;
  tag = sound_within form t.tag fits.tag;
  fields = λ k d lt. sound_within form _ (fits.fields k d lt);
}

pub template_within : (form : Form) (t : Template) → FitsTemplateIn form t → IsWithinTemplate t
template_within form t fits = record {
  count = few_within form (length t.fields) fits.count;
  tag = sound_within form t.tag fits.tag;
  fields = λ k d lt. pattern_within form _ (fits.fields k d lt);
}
