-- What is written of a character, of its bytes, and of strings.
use Rattle.std.proofs.Common.{◌≡◌, ◌≢◌, Result, Ok, Err, ℕ, suc, ◌<◌, ◌≤◌, Bool, true, false, cond, List, [], ◌∷◌, ◌++◌}
use Rattle.std.proofs.Common.{length, get_or, refl, sym, ap, ◌∙◌, append_assoc, arith, inl, inr}
use Rattle.std.specs.Prelude.{◌==◌, Some, OnOk, is_ok}
use Rattle.std.specs.Char.{encode_utf8}
use Rattle.std.specs.List.{flat_map}
use Rattle.std.specs.Str.{encode_utf8_all}
use Rattle.std.proofs.lemmas.Bool.{ne_eqb, eqb-true, or_from, cases_lt}
use Rattle.std.proofs.lemmas.List.{append-nil}
use Rattle.std.proofs.lemmas.List.Concat.{flat_map-cons, flat_map-append}
use Rattle.std.proofs.lemmas.Str.{encode_ascii, inside_one, encodes-append}
use Rattle.linda_tuple.specs.declared.atom.Atom.{Atom}
use Rattle.linda_tuple.specs.declared.atom.Atom.TheVariants as atoms
use Rattle.linda_tuple.specs.Tuple.{Tuple}
use Rattle.linda_tuple.specs.declared.pattern.Pattern.{Pattern}
use Rattle.linda_tuple.specs.declared.pattern.Pattern.TheVariants as patterns
use Rattle.linda_tuple.specs.Template.{Template}
use Rattle.linda_text.specs.Grammar.{IsForm, IsContent, IsAtomText, IsPatternText, AreFields, IsRowText, IsTupleText, IsTemplateText, IsAlone}
use Rattle.linda_text.specs.Written.{written_byte, written_atom, written_pattern, written_field, written_row, written_tuple, written_template}
use Rattle.linda_text.specs.declared.marks.TheConstants as mark

-- The first code beyond ASCII.
abbrev ascii_end : ℕ
ascii_end = 128

-- None of the five that are written as escapes.
abbrev pub StandsAsItself : ℕ → Type 0
StandsAsItself c = (c ≢ mark.QUOTE) × (c ≢ mark.BACKSLASH) × (c ≢ mark.LINE_FEED) × (c ≢ mark.TAB) × (c ≢ mark.CARRIAGE_RETURN)

itself : (c : ℕ) → StandsAsItself c → written_byte c ≡ c ∷ []
itself c not = rw (
  ne_eqb c mark.QUOTE not.0,
  ne_eqb c mark.BACKSLASH not.1,
  ne_eqb c mark.LINE_FEED not.2,
  ne_eqb c mark.TAB not.3,
  ne_eqb c mark.CARRIAGE_RETURN not.4,
) refl

beyond_ascii : (bytes : List ℕ) → ((k : ℕ) → k < length bytes → ascii_end ≤ get_or bytes k 0) → flat_map written_byte bytes ≡ bytes
beyond_ascii [] high = refl
beyond_ascii (b ∷ bytes) high =
    let first : ascii_end ≤ b = high 0 (omega arith) in
    let one : written_byte b ≡ b ∷ [] = itself b ((λ e. omega arith), (λ e. omega arith), (λ e. omega arith), (λ e. omega arith), (λ e. omega arith)) in
    rw (flat_map-cons, one, beyond_ascii bytes (λ k lt. high (suc k) (omega (arith, lt)))) refl

bytes_of : (c k : ℕ) → ascii_end ≤ c → k < length (encode_utf8 c) → ascii_end ≤ get_or (encode_utf8 c) k 0
bytes_of c k high lt = elim (cases_lt (get_or (encode_utf8 c) k 0) ascii_end) [
  | inl low ↦ absurd (omega (arith, inside_one c [] (encode_utf8 c) k (sym (append-nil (encode_utf8 c))) lt low))
  | inr le ↦ le
]

-- Every other character is written as itself.
pub written_itself : (c : ℕ) → StandsAsItself c → flat_map written_byte (encode_utf8 c) ≡ encode_utf8 c
written_itself c not = elim (cases_lt c ascii_end) [
  | inl low ↦ rw (encode_ascii c low, flat_map-cons, itself c not) refl
  | inr high ↦ beyond_ascii (encode_utf8 c) (λ k lt. bytes_of c k high lt)
]

-- ---- what a push wrote

pub pushed : {U E : Type 0} (r : Result U E) (new old form written : List ℕ) → new ≡ cond (is_ok r) (old ++ form) old
    → written ≡ form → OnOk r (new ≡ old ++ written)
pushed (Ok u) new old form written e same = rw same e
pushed (Err fault) new old form written e same = tt

pub one_more : (front out new yielded : List ℕ) (c : ℕ) → out ≡ front ++ flat_map written_byte (encode_utf8_all yielded)
    → new ≡ out ++ flat_map written_byte (encode_utf8 c)
    → new ≡ front ++ flat_map written_byte (encode_utf8_all (yielded ++ c ∷ []))
one_more front out new yielded c so_far now =
    let last : encode_utf8_all (c ∷ []) ≡ encode_utf8 c = append-nil (encode_utf8 c) in
    let all : encode_utf8_all (yielded ++ c ∷ []) ≡ encode_utf8_all yielded ++ encode_utf8 c =
    encodes-append yielded (c ∷ []) ∙ ap (λ (t : List ℕ). encode_utf8_all yielded ++ t) last in
    now ∙ ap (λ (t : List ℕ). t ++ flat_map written_byte (encode_utf8 c)) so_far ∙ rw (all, flat_map-append) (append_assoc front _ _)

-- ---- what is written is a text of its value

form_by : (quote backslash feed tab return : Bool) (b : ℕ) → (b == mark.QUOTE) ≡ quote → (b == mark.BACKSLASH) ≡ backslash
    → (b == mark.LINE_FEED) ≡ feed → (b == mark.TAB) ≡ tab → (b == mark.CARRIAGE_RETURN) ≡ return
    → IsForm b (cond quote (mark.BACKSLASH ∷ mark.QUOTE ∷ [])
    (cond backslash (mark.BACKSLASH ∷ mark.BACKSLASH ∷ [])
    (cond feed (mark.BACKSLASH ∷ mark.FEED_LETTER ∷ [])
    (cond tab (mark.BACKSLASH ∷ mark.TAB_LETTER ∷ []) (cond return (mark.BACKSLASH ∷ mark.RETURN_LETTER ∷ []) (b ∷ []))))))
form_by true s f t r b is_q is_s is_f is_t is_r = inr (mark.QUOTE, ap (λ (c : ℕ). Some c) (sym (eqb-true b mark.QUOTE is_q)), refl)
form_by false true f t r b is_q is_s is_f is_t is_r = inr (mark.BACKSLASH, ap (λ (c : ℕ). Some c) (sym (eqb-true b mark.BACKSLASH is_s)), refl)
form_by false false true t r b is_q is_s is_f is_t is_r = inr (mark.FEED_LETTER, ap (λ (c : ℕ). Some c) (sym (eqb-true b mark.LINE_FEED is_f)), refl)
form_by false false false true r b is_q is_s is_f is_t is_r = inr (mark.TAB_LETTER, ap (λ (c : ℕ). Some c) (sym (eqb-true b mark.TAB is_t)), refl)
form_by false false false false true b is_q is_s is_f is_t is_r =
    inr (mark.RETURN_LETTER, ap (λ (c : ℕ). Some c) (sym (eqb-true b mark.CARRIAGE_RETURN is_r)), refl)
form_by false false false false false b is_q is_s is_f is_t is_r =
    inl (or_from _ (b == mark.CARRIAGE_RETURN) (or_from _ (b == mark.LINE_FEED) (or_from (b == mark.QUOTE) (b == mark.BACKSLASH) is_q is_s) is_f) is_r, refl)

content_is : (t : List ℕ) → IsContent t (flat_map written_byte t)
content_is [] = refl
content_is (b ∷ t) = (
  written_byte b,
  flat_map written_byte t,
  form_by (b == mark.QUOTE) (b == mark.BACKSLASH) (b == mark.LINE_FEED)
      (b == mark.TAB) (b == mark.CARRIAGE_RETURN) b refl refl refl refl refl,
  content_is t,
  flat_map-cons written_byte b t,
)

pub atom_written : (a : Atom) → IsAtomText a (written_atom a)
atom_written (atoms.Int n) = refl
atom_written (atoms.Text t) = (flat_map written_byte t, content_is t, refl)
atom_written (atoms.Bool b) = refl

pattern_written : (p : Pattern) → IsPatternText p (written_pattern p)
pattern_written (patterns.Value v) = atom_written v
pattern_written patterns.IntFormal = refl
pattern_written patterns.TextFormal = refl
pattern_written patterns.BoolFormal = refl
pattern_written patterns.Any = refl

fields_written : {A : Type 0} (IsText : A → List ℕ → Type 0) (written : A → List ℕ) → ((a : A) → IsText a (written a))
    → (fields : List A) → AreFields IsText fields (flat_map (written_field written) fields ++ mark.CLOSING ∷ [])
fields_written IsText written is [] = ([], tt, refl)
fields_written IsText written is (a ∷ fields) =
    let rest : List ℕ = flat_map (written_field written) fields ++ mark.CLOSING ∷ [] in
    let parts : flat_map (written_field written) (a ∷ fields) ++ mark.CLOSING ∷ [] ≡ mark.COMMA ∷ (mark.SPACE ∷ (written a ++ rest)) =
    ap (λ (t : List ℕ). t ++ mark.CLOSING ∷ []) (flat_map-cons (written_field written) a fields)
    ∙ append_assoc (written_field written a) (flat_map (written_field written) fields) (mark.CLOSING ∷ []) in
    ([], mark.SPACE ∷ [], written a, rest, tt, (refl, tt), is a, fields_written IsText written is fields, parts)

row_written : {A : Type 0} (IsText : A → List ℕ → Type 0) (written : A → List ℕ) → ((a : A) → IsText a (written a))
    → (tag : Atom) (fields : List A) → IsRowText IsText tag fields (written_row written tag fields)
row_written IsText written is tag fields =
    ([], written_atom tag, flat_map (written_field written) fields ++ mark.CLOSING ∷ [], tt, atom_written tag, fields_written IsText written is fields, refl)

tuple_written : (t : Tuple) → IsTupleText t (written_tuple t)
tuple_written t = row_written IsAtomText written_atom atom_written t.tag t.fields

pub template_written : (t : Template) → IsTemplateText t (written_template t)
template_written t = row_written IsPatternText written_pattern pattern_written t.tag t.fields

alone : {A : Type 0} (IsText : A → List ℕ → Type 0) (a : A) (text : List ℕ) → IsText a text → IsAlone IsText a text
alone IsText a text is = ([], tt, ([], text, tt, is, sym (append-nil text)))

pub atom_alone : (a : Atom) → IsAlone IsAtomText a (written_atom a)
atom_alone a = alone IsAtomText a (written_atom a) (atom_written a)

pub tuple_alone : (t : Tuple) → IsAlone IsTupleText t (written_tuple t)
tuple_alone t = alone IsTupleText t (written_tuple t) (tuple_written t)

pub template_alone : (t : Template) → IsAlone IsTemplateText t (written_template t)
template_alone t = alone IsTemplateText t (written_template t) (template_written t)
