-- What the readers of atoms and patterns read is a text of the value, and each such text is read again.
use Rattle.std.proofs.Common.{◌≡◌, inl, inr, ℕ, ℤ, suc, ◌≤◌, Bool, true, false, cond, ltb, List, [], ◌∷◌, ◌++◌, length}
use Rattle.std.proofs.Common.{drop, Ok, Err, refl, sym, ap, subst, ◌∙◌, append_assoc, arith}
use Rattle.std.specs.Prelude.{Option, Some, None, ◌==◌, ◌||◌, FitsSigned}
use Rattle.std.specs.Fmt.{signed_decimal}
use Rattle.std.specs.Int.{w64}
use Rattle.std.specs.Str.{is_utf8}
use Rattle.std.specs.Str.Parse.{true_text, false_text}
use Rattle.std.proofs.lemmas.Bool.{eqb-true, ne_eqb, or_parts, ltb-false, le-ltb}
use Rattle.linda_tuple.specs.declared.atom.Atom.{Atom}
use Rattle.linda_tuple.specs.declared.atom.Atom.TheVariants as atoms
use Rattle.linda_tuple.specs.declared.pattern.Pattern.{Pattern}
use Rattle.linda_tuple.specs.declared.pattern.Pattern.TheVariants as patterns
use Rattle.linda_tuple.specs.declared.limits.TheConstants.{MAX_TEXT}
use Rattle.linda_tuple.specs.Atom.{IsSound}
use Rattle.linda_tuple.specs.Template.{IsSoundPattern}
use Rattle.linda_text.specs.declared.fault.TextFault.TheVariants.{SyntaxAt, TextTooLong}
use Rattle.linda_text.specs.Letters.{is_special, escaped, truth_word}
use Rattle.linda_text.specs.Grammar.{IsForm, IsContent, IsAtomText, IsPatternText, EndsNumeral}
use Rattle.linda_text.specs.Steps.{Reader}
use Rattle.linda_text.specs.Reading.{after_blanks, wrong, word_at, named, with_byte, with_escape, content_at, if_short}
use Rattle.linda_text.specs.Reading.{if_text, short_at, string_at, integer_at, made, atom_at, formal_at, pattern_at}
use Rattle.linda_codec.proofs.TakeLaws.{bind_ok, guard_then, guard_right, ok_is}
use Rattle.linda_text.proofs.BlankLaws.{no_blank, beyond_blanks}
use Rattle.linda_text.proofs.NumeralLaws.{integer_takes, integer_again, number_begins}
use Rattle.linda_text.specs.declared.marks.TheConstants as mark

-- Bytes begin with a text of the value, which fits, and these are the bytes after it.
abbrev pub Begins : {A : Type 0} → (A → List ℕ → Type 0) → (A → Type 0) → List ℕ → A × List ℕ → Type 0
Begins IsText Fits bytes x = (text : List ℕ) × IsText x.0 text × Fits x.0 × (bytes ≡ text ++ x.1)

-- What is read is a text of the value, which fits; each text of a value that fits is read again, unless digits follow; and no blank begins one.
pub record IsReading {A : Type 0} (IsText : A → List ℕ → Type 0) (Fits : A → Type 0) (read : Reader A) : Type 0 where
  pub takes : (bytes : List ℕ) (x : A × List ℕ) → read bytes ≡ Ok x → Begins IsText Fits bytes x
  pub again : (a : A) (text rest : List ℕ) → IsText a text → Fits a → EndsNumeral rest → read (text ++ rest) ≡ Ok (a, rest)
  pub begins : (a : A) (text rest : List ℕ) → IsText a text → Fits a → after_blanks (text ++ rest) ≡ text ++ rest

-- ---- words

word_by : (t : Bool) (w b : ℕ) (word bytes rest : List ℕ) → (b == w) ≡ t → (word_at word bytes ≡ Ok rest → bytes ≡ word ++ rest)
    → cond t (word_at word bytes) (Err (SyntaxAt (suc (length bytes)))) ≡ Ok rest → b ∷ bytes ≡ (w ∷ word) ++ rest
word_by true w b word bytes rest is others e =
    let same : b ≡ w = eqb-true b w is in
    rw (same, others e) refl
word_by false w b word bytes rest is others e = absurd cc

pub word_takes : (word bytes rest : List ℕ) → word_at word bytes ≡ Ok rest → bytes ≡ word ++ rest
unfolding word_at
word_takes [] bytes rest e = ok_is bytes rest e
word_takes (w ∷ word) [] rest e = absurd cc
word_takes (w ∷ word) (b ∷ bytes) rest e = word_by (b == w) w b word bytes rest refl (word_takes word bytes rest) e

named_takes : {A : Type 0} (a : A) (word bytes : List ℕ) (x : A × List ℕ) → named a word bytes ≡ Ok x → (bytes ≡ word ++ x.1) × (a ≡ x.0)
named_takes {A = A} a word bytes x e =
    let w = bind_ok (word_at word bytes) (λ rest. Ok (a, rest)) x e in
    let found : A × List ℕ = (a, w.0) in
    subst (λ (y : A × List ℕ). (bytes ≡ word ++ y.1) × (a ≡ y.0)) {x = found} (ok_is found x w.2) (word_takes word bytes w.0 w.1, refl)

-- ---- strings

-- In an escape, the backslash comes before the bytes.
abbrev pub slashed : Bool → List ℕ → List ℕ
slashed true bytes = mark.BACKSLASH ∷ bytes
slashed false bytes = bytes

-- What comes before the closing quote says these bytes.
abbrev pub Says : Bool → List ℕ → List ℕ × List ℕ → Type 0
Says in_escape bytes x = (content : List ℕ) × IsContent x.0 (slashed in_escape content) × (bytes ≡ content ++ mark.QUOTE ∷ x.1)

escape_says : (o : Option ℕ) (e : ℕ) (rest : List ℕ) (x : List ℕ × List ℕ) → escaped e ≡ o
    → ((y : List ℕ × List ℕ) → content_at false rest ≡ Ok y → Says false rest y)
    → with_escape o (wrong (e ∷ rest)) (content_at false rest) ≡ Ok x → Says true (e ∷ rest) x
escape_says None e rest x is others read = absurd cc
escape_says (Some b) e rest x is others read =
    let y = bind_ok (content_at false rest) (λ y. Ok (b ∷ y.0, y.1)) x read in
    let s = others y.0 y.1 in
    let found : List ℕ × List ℕ = (b ∷ y.0.0, y.0.1) in
    subst (λ (z : List ℕ × List ℕ). Says true (e ∷ rest) z) {x = found} (ok_is found x y.2)
    (e ∷ s.0, (mark.BACKSLASH ∷ e ∷ [], s.0, inr (e, is, refl), s.1, refl), ap (λ (t : List ℕ). e ∷ t) s.2)

byte_says : (quote backslash special : Bool) (b : ℕ) (rest : List ℕ) (x : List ℕ × List ℕ)
    → (b == mark.QUOTE) ≡ quote → (b == mark.BACKSLASH) ≡ backslash → is_special b ≡ special
    → (content_at true rest ≡ Ok x → Says true rest x) → ((y : List ℕ × List ℕ) → content_at false rest ≡ Ok y → Says false rest y)
    → cond quote (Ok ([], rest)) (cond backslash (content_at true rest) (cond special (wrong (b ∷ rest)) (with_byte b (content_at false rest)))) ≡ Ok x
    → Says false (b ∷ rest) x
byte_says true backslash special b rest x q s p escapes others read =
    let same : b ≡ mark.QUOTE = eqb-true b mark.QUOTE q in
    let found : List ℕ × List ℕ = ([], rest) in
    subst (λ (z : List ℕ × List ℕ). Says false (b ∷ rest) z) {x = found} (ok_is found x read) ([], refl, ap (λ (c : ℕ). c ∷ rest) same)
byte_says false true special b rest x q s p escapes others read =
    let same : b ≡ mark.BACKSLASH = eqb-true b mark.BACKSLASH s in
    let c = escapes read in
    (mark.BACKSLASH ∷ c.0, c.1, rw same (ap (λ (t : List ℕ). mark.BACKSLASH ∷ t) c.2))
byte_says false false true b rest x q s p escapes others read = absurd cc
byte_says false false false b rest x q s p escapes others read =
    let y = bind_ok (content_at false rest) (λ y. Ok (b ∷ y.0, y.1)) x read in
    let c = others y.0 y.1 in
    let found : List ℕ × List ℕ = (b ∷ y.0.0, y.0.1) in
    subst (λ (z : List ℕ × List ℕ). Says false (b ∷ rest) z) {x = found} (ok_is found x y.2)
    (b ∷ c.0, (b ∷ [], c.0, inl (p, refl), c.1, refl), ap (λ (t : List ℕ). b ∷ t) c.2)

pub content_takes : (in_escape : Bool) (bytes : List ℕ) (x : List ℕ × List ℕ) → content_at in_escape bytes ≡ Ok x → Says in_escape bytes x
unfolding content_at
content_takes true [] x e = absurd cc
content_takes false [] x e = absurd cc
content_takes true (e ∷ rest) x read = escape_says (escaped e) e rest x refl (content_takes false rest) read
content_takes false (b ∷ rest) x read =
    byte_says (b == mark.QUOTE) (b == mark.BACKSLASH) (is_special b) b rest x refl refl refl (content_takes true rest x) (content_takes false rest) read

form_again : (b : ℕ) (form rest : List ℕ) (y : List ℕ × List ℕ) → IsForm b form → content_at false rest ≡ Ok y
    → content_at false (form ++ rest) ≡ Ok (b ∷ y.0, y.1)
unfolding content_at
form_again b form rest y (inl plain) read =
    let first = or_parts ((b == mark.QUOTE || b == mark.BACKSLASH) || b == mark.LINE_FEED) (b == mark.CARRIAGE_RETURN) plain.0 in
    let second = or_parts (b == mark.QUOTE || b == mark.BACKSLASH) (b == mark.LINE_FEED) first.0 in
    let third = or_parts (b == mark.QUOTE) (b == mark.BACKSLASH) second.0 in
    rw (plain.1, third.0, third.1, second.1, first.1, read) refl
form_again b form rest y (inr escape) read = rw (escape.2, escape.1, read) refl

content_again : (t content rest : List ℕ) → IsContent t content → content_at false (content ++ mark.QUOTE ∷ rest) ≡ Ok (t, rest)
unfolding content_at
content_again [] content rest none = rw none refl
content_again (b ∷ t) content rest (form, others, is_form, is, parts) =
    rw (parts, append_assoc form others (mark.QUOTE ∷ rest))
    (form_again b form (others ++ mark.QUOTE ∷ rest) (t, rest) is_form (content_again t others rest is))

abbrev IsString : List ℕ → List ℕ → Type 0
IsString t text = (content : List ℕ) × IsContent t content × (text ≡ content ++ mark.QUOTE ∷ [])

string_takes : (bytes : List ℕ) (x : List ℕ × List ℕ) → string_at bytes ≡ Ok x → Begins IsString (λ t. (length t ≤ MAX_TEXT) × (is_utf8 t ≡ true)) bytes x
unfolding string_at short_at
string_takes bytes x e =
    let h = bind_ok (short_at bytes) if_text x e in
    let c = bind_ok (content_at false bytes) if_short h.0 h.1 in
    let g = guard_then (ltb MAX_TEXT (length c.0.0)) TextTooLong (Ok c.0) h.0 c.2 in
    let r = guard_right (is_utf8 h.0.0) (SyntaxAt (length h.0.1)) h.0 x h.2 in
    let short : length c.0.0 ≤ MAX_TEXT = ltb-false _ _ g.0 in
    let s = content_takes false bytes c.0 c.1 in
    let Found : List ℕ × List ℕ → Type 0 = Begins IsString (λ t. (length t ≤ MAX_TEXT) × (is_utf8 t ≡ true)) bytes in
    let begins : is_utf8 c.0.0 ≡ true
    → Found c.0 = λ text. (s.0 ++ mark.QUOTE ∷ [], (s.0, s.1, refl), (short, text), s.2 ∙ sym (append_assoc s.0 (mark.QUOTE ∷ []) c.0.1)) in
    let same : c.0 ≡ h.0 = ok_is c.0 h.0 g.1 in
    subst Found (same ∙ r.1) (begins (ap (λ (y : List ℕ × List ℕ). is_utf8 y.0) same ∙ r.0))

string_again : (t content rest : List ℕ) → IsContent t content → length t ≤ MAX_TEXT → is_utf8 t ≡ true
    → string_at ((content ++ mark.QUOTE ∷ []) ++ rest) ≡ Ok (t, rest)
unfolding string_at short_at
string_again t content rest is short text =
    let not_long : ltb MAX_TEXT (length t) ≡ false = le-ltb _ _ short in
    rw (append_assoc content (mark.QUOTE ∷ []) rest, content_again t content rest is, not_long, text) refl

-- ---- atoms

atom_by : (quote true_letter false_letter : Bool) (b : ℕ) (rest : List ℕ) (x : Atom × List ℕ) → (b == mark.QUOTE) ≡ quote
    → cond quote (made (λ t. atoms.Text t) (string_at rest)) (cond true_letter (named (atoms.Bool true) true_text (b ∷ rest))
    (cond false_letter (named (atoms.Bool false) false_text (b ∷ rest)) (made (λ n. atoms.Int n) (integer_at (b ∷ rest))))) ≡ Ok x
    → Begins IsAtomText IsSound (b ∷ rest) x
atom_by true t f b rest x q e =
    let y = bind_ok (string_at rest) (λ y. Ok (atoms.Text y.0, y.1)) x e in
    let s = string_takes rest y.0 y.1 in
    let same : b ≡ mark.QUOTE = eqb-true b mark.QUOTE q in
    let found : Atom × List ℕ = (atoms.Text y.0.0, y.0.1) in
    subst (λ (z : Atom × List ℕ). Begins IsAtomText IsSound (b ∷ rest) z) {x = found} (ok_is found x y.2)
    (mark.QUOTE ∷ s.0, (s.1.0, s.1.1, ap (λ (w : List ℕ). mark.QUOTE ∷ w) s.1.2), s.2, rw same (ap (λ (w : List ℕ). mark.QUOTE ∷ w) s.3))
atom_by false true f b rest x q e =
    let n = named_takes (atoms.Bool true) true_text (b ∷ rest) x e in
    let found : Atom × List ℕ = (atoms.Bool true, x.1) in
    subst (λ (a : Atom). Begins IsAtomText IsSound (b ∷ rest) (a, x.1)) n.1 (true_text, refl, tt, n.0)
atom_by false false true b rest x q e =
    let n = named_takes (atoms.Bool false) false_text (b ∷ rest) x e in
    subst (λ (a : Atom). Begins IsAtomText IsSound (b ∷ rest) (a, x.1)) n.1 (false_text, refl, tt, n.0)
atom_by false false false b rest x q e =
    let y = bind_ok (integer_at (b ∷ rest)) (λ y. Ok (atoms.Int y.0, y.1)) x e in
    let s = integer_takes (b ∷ rest) y.0 y.1 in
    let found : Atom × List ℕ = (atoms.Int y.0.0, y.0.1) in
    subst (λ (z : Atom × List ℕ). Begins IsAtomText IsSound (b ∷ rest) z) {x = found} (ok_is found x y.2) (signed_decimal y.0.0, refl, s.1, s.0)

atom_takes : (bytes : List ℕ) (x : Atom × List ℕ) → atom_at bytes ≡ Ok x → Begins IsAtomText IsSound bytes x
unfolding atom_at
atom_takes [] x e = absurd cc
atom_takes (b ∷ rest) x e = atom_by (b == mark.QUOTE) (b == mark.TRUE_LETTER) (b == mark.FALSE_LETTER) b rest x refl e

-- What begins as a number does is read as one.
reads_number : (d : ℕ) (bytes : List ℕ) → mark.MINUS ≤ d → d ≤ mark.NINE → atom_at (d ∷ bytes) ≡ made (λ n. atoms.Int n) (integer_at (d ∷ bytes))
unfolding atom_at
reads_number d bytes from to =
    let no_quote : (d == mark.QUOTE) ≡ false = ne_eqb d mark.QUOTE (λ e. omega arith) in
    let no_true : (d == mark.TRUE_LETTER) ≡ false = ne_eqb d mark.TRUE_LETTER (λ e. omega arith) in
    let no_false : (d == mark.FALSE_LETTER) ≡ false = ne_eqb d mark.FALSE_LETTER (λ e. omega arith) in
    rw (no_quote, no_true, no_false) refl

number_again : (n : ℤ) (rest : List ℕ) → FitsSigned w64 n → EndsNumeral rest → atom_at (signed_decimal n ++ rest) ≡ Ok (atoms.Int n, rest)
number_again n rest fits end =
    let b = number_begins n fits.sfits in
    let reads : atom_at (signed_decimal n ++ rest) ≡ made (λ n. atoms.Int n) (integer_at (signed_decimal n ++ rest)) =
    rw (b.2) (reads_number b.0 (b.1 ++ rest) b.3 b.4) in
    reads ∙ ap (made (λ n. atoms.Int n)) (integer_again n rest fits end)

text_again : (t content rest : List ℕ) → IsContent t content → length t ≤ MAX_TEXT → is_utf8 t ≡ true
    → atom_at (mark.QUOTE ∷ ((content ++ mark.QUOTE ∷ []) ++ rest)) ≡ Ok (atoms.Text t, rest)
unfolding atom_at
text_again t content rest is short text = rw (string_again t content rest is short text) refl

truth_again : (b : Bool) (rest : List ℕ) → atom_at (truth_word b ++ rest) ≡ Ok (atoms.Bool b, rest)
unfolding atom_at word_at
truth_again true rest = refl
truth_again false rest = refl

atom_again : (a : Atom) (text rest : List ℕ) → IsAtomText a text → IsSound a → EndsNumeral rest → atom_at (text ++ rest) ≡ Ok (a, rest)
atom_again (atoms.Int n) text rest is sound end = rw is (number_again n rest sound end)
atom_again (atoms.Text t) text rest is sound end = rw (is.2) (text_again t is.0 rest is.1 sound.0 sound.1)
atom_again (atoms.Bool b) text rest is sound end = rw is (truth_again b rest)

truth_begins : (b : Bool) (rest : List ℕ) → after_blanks (truth_word b ++ rest) ≡ truth_word b ++ rest
unfolding after_blanks
truth_begins true rest = refl
truth_begins false rest = refl

atom_begins : (a : Atom) (text rest : List ℕ) → IsAtomText a text → IsSound a → after_blanks (text ++ rest) ≡ text ++ rest
atom_begins (atoms.Int n) text rest is sound =
    let b = number_begins n sound.sfits in
    rw (is, b.2) (no_blank b.0 (b.1 ++ rest) (beyond_blanks b.0 b.3))
atom_begins (atoms.Text t) text rest is sound = rw (is.2) (no_blank mark.QUOTE ((is.0 ++ mark.QUOTE ∷ []) ++ rest) refl)
atom_begins (atoms.Bool b) text rest is sound = rw is (truth_begins b rest)

pub atom_is : IsReading IsAtomText IsSound atom_at
atom_is = record { takes = atom_takes; again = atom_again; begins = atom_begins }

-- ---- patterns

formal_by : (i s b : Bool) (letter : ℕ) (rest : List ℕ) (x : Pattern × List ℕ) → (letter == mark.INT_LETTER) ≡ i
    → (letter == mark.TEXT_LETTER) ≡ s → (letter == mark.BOOL_LETTER) ≡ b
    → cond i (Ok (patterns.IntFormal, rest)) (cond s (Ok (patterns.TextFormal, rest)) (cond b (Ok (patterns.BoolFormal, rest)) (wrong (letter ∷ rest)))) ≡ Ok x
    → Begins IsPatternText IsSoundPattern (mark.QUESTION ∷ letter ∷ rest) x
formal_by true s b letter rest x is_i is_s is_b e =
    let found : Pattern × List ℕ = (patterns.IntFormal, rest) in
    subst (λ (z : Pattern × List ℕ). Begins IsPatternText IsSoundPattern (mark.QUESTION ∷ letter ∷ rest) z) {x = found} (ok_is found x e)
    (mark.QUESTION ∷ mark.INT_LETTER ∷ [], refl, tt, ap (λ (c : ℕ). mark.QUESTION ∷ c ∷ rest) (eqb-true letter mark.INT_LETTER is_i))
formal_by false true b letter rest x is_i is_s is_b e =
    let found : Pattern × List ℕ = (patterns.TextFormal, rest) in
    subst (λ (z : Pattern × List ℕ). Begins IsPatternText IsSoundPattern (mark.QUESTION ∷ letter ∷ rest) z) {x = found} (ok_is found x e)
    (mark.QUESTION ∷ mark.TEXT_LETTER ∷ [], refl, tt, ap (λ (c : ℕ). mark.QUESTION ∷ c ∷ rest) (eqb-true letter mark.TEXT_LETTER is_s))
formal_by false false true letter rest x is_i is_s is_b e =
    let found : Pattern × List ℕ = (patterns.BoolFormal, rest) in
    subst (λ (z : Pattern × List ℕ). Begins IsPatternText IsSoundPattern (mark.QUESTION ∷ letter ∷ rest) z) {x = found} (ok_is found x e)
    (mark.QUESTION ∷ mark.BOOL_LETTER ∷ [], refl, tt, ap (λ (c : ℕ). mark.QUESTION ∷ c ∷ rest) (eqb-true letter mark.BOOL_LETTER is_b))
formal_by false false false letter rest x is_i is_s is_b e = absurd cc

formal_takes : (rest : List ℕ) (x : Pattern × List ℕ) → formal_at rest ≡ Ok x → Begins IsPatternText IsSoundPattern (mark.QUESTION ∷ rest) x
unfolding formal_at
formal_takes [] x e = absurd cc
formal_takes (letter ∷ rest) x e = formal_by (letter == mark.INT_LETTER) (letter == mark.TEXT_LETTER)
    (letter == mark.BOOL_LETTER) letter rest x refl refl refl e

pattern_by : (question line : Bool) (b : ℕ) (rest : List ℕ) (x : Pattern × List ℕ) → (b == mark.QUESTION) ≡ question → (b == mark.WILDCARD) ≡ line
    → cond question (formal_at rest) (cond line (Ok (patterns.Any, rest)) (made (λ v. patterns.Value v) (atom_at (b ∷ rest)))) ≡ Ok x
    → Begins IsPatternText IsSoundPattern (b ∷ rest) x
pattern_by true line b rest x q l e = rw (eqb-true b mark.QUESTION q) (formal_takes rest x e)
pattern_by false true b rest x q l e =
    let found : Pattern × List ℕ = (patterns.Any, rest) in
    subst (λ (z : Pattern × List ℕ). Begins IsPatternText IsSoundPattern (b ∷ rest) z) {x = found} (ok_is found x e)
    (mark.WILDCARD ∷ [], refl, tt, ap (λ (c : ℕ). c ∷ rest) (eqb-true b mark.WILDCARD l))
pattern_by false false b rest x q l e =
    let y = bind_ok (atom_at (b ∷ rest)) (λ y. Ok (patterns.Value y.0, y.1)) x e in
    let s = atom_takes (b ∷ rest) y.0 y.1 in
    let found : Pattern × List ℕ = (patterns.Value y.0.0, y.0.1) in
    subst (λ (z : Pattern × List ℕ). Begins IsPatternText IsSoundPattern (b ∷ rest) z) {x = found} (ok_is found x y.2) (s.0, s.1, s.2, s.3)

pattern_takes : (bytes : List ℕ) (x : Pattern × List ℕ) → pattern_at bytes ≡ Ok x → Begins IsPatternText IsSoundPattern bytes x
unfolding pattern_at
pattern_takes [] x e = absurd cc
pattern_takes (b ∷ rest) x e = pattern_by (b == mark.QUESTION) (b == mark.WILDCARD) b rest x refl refl e

-- What begins with none of the two signs is read as a value.
reads_value : (d : ℕ) (bytes : List ℕ) → (d == mark.QUESTION) ≡ false → (d == mark.WILDCARD) ≡ false
    → pattern_at (d ∷ bytes) ≡ made (λ v. patterns.Value v) (atom_at (d ∷ bytes))
unfolding pattern_at
reads_value d bytes q l = rw (q, l) refl

truth_value : (b : Bool) (rest : List ℕ) → pattern_at (truth_word b ++ rest) ≡ made (λ v. patterns.Value v) (atom_at (truth_word b ++ rest))
truth_value true rest = reads_value mark.TRUE_LETTER (drop 1 true_text ++ rest) refl refl
truth_value false rest = reads_value mark.FALSE_LETTER (drop 1 false_text ++ rest) refl refl

value_first : (a : Atom) (text rest : List ℕ) → IsAtomText a text → IsSound a
    → pattern_at (text ++ rest) ≡ made (λ v. patterns.Value v) (atom_at (text ++ rest))
value_first (atoms.Int n) text rest is sound =
    let b = number_begins n sound.sfits in
    let no_question : (b.0 == mark.QUESTION) ≡ false = ne_eqb b.0 mark.QUESTION (λ e. omega (arith, b.4)) in
    let no_line : (b.0 == mark.WILDCARD) ≡ false = ne_eqb b.0 mark.WILDCARD (λ e. omega (arith, b.4)) in
    rw (is, b.2) (reads_value b.0 (b.1 ++ rest) no_question no_line)
value_first (atoms.Text t) text rest is sound = rw (is.2) (reads_value mark.QUOTE ((is.0 ++ mark.QUOTE ∷ []) ++ rest) refl refl)
value_first (atoms.Bool b) text rest is sound = rw is (truth_value b rest)

pattern_again : (p : Pattern) (text rest : List ℕ) → IsPatternText p text → IsSoundPattern p → EndsNumeral rest → pattern_at (text ++ rest) ≡ Ok (p, rest)
unfolding pattern_at formal_at
pattern_again (patterns.Value v) text rest is sound end = value_first v text rest is sound
    ∙ ap (made (λ a. patterns.Value a)) (atom_again v text rest is sound end)
pattern_again patterns.IntFormal text rest is sound end = rw is refl
pattern_again patterns.TextFormal text rest is sound end = rw is refl
pattern_again patterns.BoolFormal text rest is sound end = rw is refl
pattern_again patterns.Any text rest is sound end = rw is refl

pattern_begins : (p : Pattern) (text rest : List ℕ) → IsPatternText p text → IsSoundPattern p → after_blanks (text ++ rest) ≡ text ++ rest
unfolding after_blanks
pattern_begins (patterns.Value v) text rest is sound = atom_begins v text rest is sound
pattern_begins patterns.IntFormal text rest is sound = rw is refl
pattern_begins patterns.TextFormal text rest is sound = rw is refl
pattern_begins patterns.BoolFormal text rest is sound = rw is refl
pattern_begins patterns.Any text rest is sound = rw is refl

pub pattern_is : IsReading IsPatternText IsSoundPattern pattern_at
pattern_is = record { takes = pattern_takes; again = pattern_again; begins = pattern_begins }
