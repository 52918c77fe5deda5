-- What the readers of tuples and templates read is a text of the value, and each such text is read again.
use Rattle.std.proofs.Common.{◌≡◌, ℕ, zero, suc, ◌≤◌, Bool, true, false, cond, List, [], ◌∷◌, ◌++◌, All, length, Ok}
use Rattle.std.proofs.Common.{Err, refl, sym, ap, subst, ◌∙◌, append_assoc, arith}
use Rattle.std.specs.Prelude.{◌==◌}
use Rattle.std.specs.List.{AllByRecursion}
use Rattle.std.proofs.lemmas.Bool.{eqb-true}
use Rattle.std.proofs.lemmas.List.Elements.{All-from_recursion, recursion_from_All}
use Rattle.linda_tuple.specs.declared.atom.Atom.{Atom}
use Rattle.linda_tuple.specs.declared.limits.TheConstants.{MAX_FIELDS}
use Rattle.linda_tuple.specs.Atom.{IsSound}
use Rattle.linda_tuple.specs.Tuple.{Tuple, IsWithin}
use Rattle.linda_tuple.specs.Template.{Template, IsSoundPattern, IsWithinTemplate}
use Rattle.linda_text.specs.declared.fault.TextFault.TheVariants.{TooManyFields}
use Rattle.linda_text.specs.Grammar.{AreBlanks, Stands, IsAtomText, EndsNumeral, AreFields, IsRowText, IsTupleText, IsTemplateText}
use Rattle.linda_codec.specs.Steps.{◌>>=◌}
use Rattle.linda_text.specs.Steps.{Read, Reader}
use Rattle.linda_text.specs.Reading.{after_blanks, wrong, word_at, made, more_at, no_more_at, fields_at, atom_at}
use Rattle.linda_text.specs.Reading.{tag_at, row_at, tuple_of, template_of, tuple_at, template_at, spaced_atom_at}
use Rattle.linda_codec.proofs.TakeLaws.{bind_ok, ok_is}
use Rattle.linda_text.proofs.BlankLaws.{no_blank, blanks_take, blanks_again, blanks_end}
use Rattle.linda_text.proofs.AtomLaws.{IsReading, Begins, word_takes, atom_is, pattern_is}
use Rattle.linda_text.specs.declared.marks.TheConstants as mark

-- ---- the mark between fields and after them

abbrev mark_of : Bool → ℕ
mark_of true = mark.COMMA
mark_of false = mark.CLOSING

mark_by : (comma close : Bool) (b : ℕ) (rest : List ℕ) (x : Bool × List ℕ) → (b == mark.COMMA) ≡ comma → (b == mark.CLOSING) ≡ close
    → cond comma (Ok (true, rest)) (cond close (Ok (false, rest)) (wrong (b ∷ rest))) ≡ Ok x → b ∷ rest ≡ mark_of x.0 ∷ x.1
mark_by true close b rest x is_comma is_close e =
    let found : Bool × List ℕ = (true, rest) in
    subst (λ (y : Bool × List ℕ). b ∷ rest ≡ mark_of y.0 ∷ y.1) {x = found} (ok_is found x e) (ap (λ (c : ℕ). c ∷ rest) (eqb-true b mark.COMMA is_comma))
mark_by false true b rest x is_comma is_close e =
    let found : Bool × List ℕ = (false, rest) in
    subst (λ (y : Bool × List ℕ). b ∷ rest ≡ mark_of y.0 ∷ y.1) {x = found} (ok_is found x e) (ap (λ (c : ℕ). c ∷ rest) (eqb-true b mark.CLOSING is_close))
mark_by false false b rest x is_comma is_close e = absurd cc

mark_takes : (bytes : List ℕ) (x : Bool × List ℕ) → more_at bytes ≡ Ok x → bytes ≡ mark_of x.0 ∷ x.1
unfolding more_at
mark_takes [] x e = absurd cc
mark_takes (b ∷ rest) x e = mark_by (b == mark.COMMA) (b == mark.CLOSING) b rest x refl refl e

-- Blanks, and the mark.
spaced_mark : (bytes : List ℕ) (x : Bool × List ℕ) → more_at (after_blanks bytes) ≡ Ok x
    → (blanks : List ℕ) × AreBlanks blanks × (bytes ≡ blanks ++ mark_of x.0 ∷ x.1)
spaced_mark bytes x e =
    let b = blanks_take bytes in
    (b.0, b.1, b.2 ∙ ap (λ (t : List ℕ). b.0 ++ t) (mark_takes (after_blanks bytes) x e))

comma_again : (blanks rest : List ℕ) → AreBlanks blanks → more_at (after_blanks (blanks ++ mark.COMMA ∷ rest)) ≡ Ok (true, rest)
unfolding more_at after_blanks
comma_again blanks rest all = rw (blanks_again blanks (mark.COMMA ∷ rest) all) refl

close_again : (blanks rest : List ℕ) → AreBlanks blanks → more_at (after_blanks (blanks ++ mark.CLOSING ∷ rest)) ≡ Ok (false, rest)
unfolding more_at after_blanks
close_again blanks rest all = rw (blanks_again blanks (mark.CLOSING ∷ rest) all) refl

-- ---- fields

-- A text of the fields is at the front, there are no more than so many, and each fits.
abbrev BeginFields : {A : Type 0} → (A → List ℕ → Type 0) → (A → Type 0) → ℕ → List ℕ → List A × List ℕ → Type 0
BeginFields IsText Fits room bytes x = (text : List ℕ) × AreFields IsText x.0 text × (length x.0 ≤ room) × AllByRecursion Fits x.0 × (bytes ≡ text ++ x.1)

none_begin : {A : Type 0} (IsText : A → List ℕ → Type 0) (Fits : A → Type 0) (room : ℕ) (bytes rest : List ℕ)
    → more_at (after_blanks bytes) ≡ Ok (false, rest) → BeginFields IsText Fits room bytes ([], rest)
none_begin IsText Fits room bytes rest e =
    let m = spaced_mark bytes (false, rest) e in
    (m.0 ++ mark.CLOSING ∷ [], (m.0, m.1, refl), omega arith, tt, m.2 ∙ sym (append_assoc m.0 (mark.CLOSING ∷ []) rest))

regroup : (before between field others rest : List ℕ)
    → before ++ mark.COMMA ∷ (between ++ (field ++ (others ++ rest))) ≡ (before ++ mark.COMMA ∷ (between ++ (field ++ others))) ++ rest
regroup before between field others rest = simp append_assoc

one_more : {A : Type 0} (IsText : A → List ℕ → Type 0) (Fits : A → Type 0) (room : ℕ) (bytes after behind rest : List ℕ) (a : A) (others : List A)
    → more_at (after_blanks bytes) ≡ Ok (true, after)
    → Begins IsText Fits (after_blanks after) (a, behind) → BeginFields IsText Fits room behind (others, rest)
    → BeginFields IsText Fits (suc room) bytes (a ∷ others, rest)
one_more IsText Fits room bytes after behind rest a others e first more =
    let m = spaced_mark bytes (true, after) e in
    let b = blanks_take after in
    let inner : after ≡ b.0 ++ (first.0 ++ (more.0 ++ rest)) = b.2 ∙ ap (λ (t : List ℕ). b.0 ++ t) (first.3 ∙ ap (λ (t : List ℕ). first.0 ++ t) more.4) in
    let whole : bytes ≡ m.0 ++ mark.COMMA ∷ (b.0 ++ (first.0 ++ (more.0 ++ rest))) = m.2 ∙ ap (λ (t : List ℕ). m.0 ++ mark.COMMA ∷ t) inner in (
      m.0 ++ mark.COMMA ∷ (b.0 ++ (first.0 ++ more.0)),
      (m.0, b.0, first.0, more.0, m.1, b.1, first.1, more.1, refl),
      omega (arith, more.2),
      (first.2, more.3),
      whole ∙ regroup m.0 b.0 first.0 more.0 rest,
    )

-- What reads the fields after a field.
abbrev others_read : {A : Type 0} → Reader A → ℕ → A × List ℕ → Read (List A)
others_read field room first = fields_at field room first.1 >>= λ others. Ok (first.0 ∷ others.0, others.1)

fields_by : {A : Type 0} {IsText : A → List ℕ → Type 0} {Fits : A → Type 0} {field : Reader A}
    → IsReading IsText Fits field → (room : ℕ) (bytes after : List ℕ) (more : Bool) (x : List A × List ℕ)
    → more_at (after_blanks bytes) ≡ Ok (more, after)
    → ((behind : List ℕ) (y : List A × List ℕ) → fields_at field room behind ≡ Ok y → BeginFields IsText Fits room behind y)
    → cond more (field (after_blanks after) >>= others_read field room) (Ok ([], after)) ≡ Ok x → BeginFields IsText Fits (suc room) bytes x
fields_by {A = A} {IsText = IsText} {Fits = Fits} {field = field} is room bytes after false x e others read =
    let found : List A × List ℕ = ([], after) in
    subst (λ (y : List A × List ℕ). BeginFields IsText Fits (suc room) bytes y) {x = found}
    (ok_is found x read) (none_begin IsText Fits (suc room) bytes after e)
fields_by {A = A} {IsText = IsText} {Fits = Fits} {field = field} is room bytes after true x e others read =
    let first = bind_ok (field (after_blanks after)) (others_read field room) x read in
    let y = bind_ok (fields_at field room first.0.1) (λ others. Ok (first.0.0 ∷ others.0, others.1)) x first.2 in
    let found : List A × List ℕ = (first.0.0 ∷ y.0.0, y.0.1) in
    subst (λ (z : List A × List ℕ). BeginFields IsText Fits (suc room) bytes z) {x = found} (ok_is found x y.2)
    (one_more IsText Fits room bytes after first.0.1 y.0.1 first.0.0 y.0.0 e (is.takes (after_blanks after) first.0 first.1) (others first.0.1 y.0 y.1))

last_by : {A : Type 0} (IsText : A → List ℕ → Type 0) (Fits : A → Type 0) (bytes after : List ℕ) (more : Bool) (rest : List ℕ)
    → more_at (after_blanks bytes) ≡ Ok (more, after)
    → cond more (Err TooManyFields) (Ok after) ≡ Ok rest → BeginFields IsText Fits 0 bytes ([], rest)
last_by IsText Fits bytes after true rest e read = absurd cc
last_by {A = A} IsText Fits bytes after false rest e read =
    subst (λ (r : List ℕ). BeginFields {A = A} IsText Fits 0 bytes ([], r)) (ok_is after rest read) (none_begin IsText Fits 0 bytes after e)

fields_takes : {A : Type 0} {IsText : A → List ℕ → Type 0} {Fits : A → Type 0} {field : Reader A}
    → IsReading IsText Fits field → (room : ℕ) (bytes : List ℕ) (x : List A × List ℕ)
    → fields_at field room bytes ≡ Ok x → BeginFields IsText Fits room bytes x
unfolding fields_at no_more_at
fields_takes {A = A} {IsText = IsText} {Fits = Fits} {field = field} is zero bytes x e =
    let r = bind_ok (no_more_at bytes) (λ rest. Ok ([], rest)) x e in
    let m = bind_ok (more_at (after_blanks bytes)) (λ more. cond more.0 (Err TooManyFields) (Ok more.1)) r.0 r.1 in
    let found : List A × List ℕ = ([], r.0) in
    subst (λ (y : List A × List ℕ). BeginFields IsText Fits 0 bytes y) {x = found} (ok_is found x r.2) (last_by IsText Fits bytes m.0.1 m.0.0 r.0 m.1 m.2)
fields_takes {A = A} {IsText = IsText} {Fits = Fits} {field = field} is (suc room) bytes x e =
    let m = bind_ok (more_at (after_blanks bytes)) (λ more. cond more.0 (field (after_blanks more.1) >>= others_read field room) (Ok ([], more.1))) x e in
    fields_by is room bytes m.0.1 m.0.0 x m.1 (fields_takes is room) m.2

-- After a field come blanks and a mark.
fields_end : {A : Type 0} (IsText : A → List ℕ → Type 0) (items : List A) (text rest : List ℕ) → AreFields IsText items text → EndsNumeral (text ++ rest)
fields_end IsText [] text rest is =
    rw (is.2, append_assoc is.0 (mark.CLOSING ∷ []) rest) (blanks_end is.0 mark.CLOSING rest is.1 refl)
fields_end IsText (a ∷ items) text rest (before, between, field, others, spaces, more, is, are, parts) =
    rw (parts, append_assoc before (mark.COMMA ∷ (between ++ (field ++ others))) rest)
    (blanks_end before mark.COMMA ((between ++ (field ++ others)) ++ rest) spaces refl)

fields_again : {A : Type 0} {IsText : A → List ℕ → Type 0} {Fits : A → Type 0} {field : Reader A}
    → IsReading IsText Fits field → (room : ℕ) (items : List A) (text rest : List ℕ)
    → AreFields IsText items text → length items ≤ room → AllByRecursion Fits items → fields_at field room (text ++ rest) ≡ Ok (items, rest)
unfolding fields_at no_more_at
fields_again is zero [] text rest are few fits =
    rw (are.2, append_assoc are.0 (mark.CLOSING ∷ []) rest, close_again are.0 rest are.1) refl
fields_again is (suc room) [] text rest are few fits =
    rw (are.2, append_assoc are.0 (mark.CLOSING ∷ []) rest, close_again are.0 rest are.1) refl
fields_again is zero (a ∷ items) text rest are few fits = absurd (omega (arith, few))
fields_again {IsText = IsText} {field = read} is (suc room) (a ∷ items) text rest (before, between, field, others, spaces, more, one, are, parts) few fits =
    let regrouped : text ++ rest ≡ before ++ mark.COMMA ∷ (between ++ (field ++ (others ++ rest))) =
    ap (λ (t : List ℕ). t ++ rest) parts ∙ sym (regroup before between field others rest) in
    let mark = comma_again before (between ++ (field ++ (others ++ rest))) spaces in
    let inner : after_blanks (between ++ (field ++ (others ++ rest))) ≡ field ++ (others ++ rest) =
    blanks_again between (field ++ (others ++ rest)) more ∙ is.begins a field (others ++ rest) one fits.0 in
    let first = is.again a field (others ++ rest) one fits.0 (fields_end IsText items others rest are) in
    let next = fields_again is room items others rest are (omega (arith, few)) fits.1 in
    rw (regrouped, mark, inner, first, next) refl

-- ---- rows: a tag and fields between parentheses

-- A tag and fields of a size that is allowed, each of which fits.
abbrev FitsRow : {A : Type 0} → (A → Type 0) → Atom × List A → Type 0
FitsRow Fits row = IsSound row.0 × (length row.1 ≤ MAX_FIELDS) × AllByRecursion Fits row.1

abbrev IsRow : {A : Type 0} → (A → List ℕ → Type 0) → Atom × List A → List ℕ → Type 0
IsRow IsText row text = IsRowText IsText row.0 row.1 text

-- The opening parenthesis, blanks, and a text of the tag.
tag_takes : (bytes : List ℕ) (x : Atom × List ℕ) → tag_at bytes ≡ Ok x → (blanks text : List ℕ)
    × AreBlanks blanks × IsAtomText x.0 text × IsSound x.0 × (bytes ≡ mark.OPENING ∷ (blanks ++ (text ++ x.1)))
unfolding tag_at
tag_takes bytes x e =
    let opened = bind_ok (word_at (mark.OPENING ∷ []) bytes) (λ opened. atom_at (after_blanks opened)) x e in
    let b = blanks_take opened.0 in
    let t = atom_is.takes (after_blanks opened.0) x opened.2 in
    let inner : opened.0 ≡ b.0 ++ (t.0 ++ x.1) = b.2 ∙ ap (λ (w : List ℕ). b.0 ++ w) t.3 in
    (b.0, t.0, b.1, t.1, t.2, word_takes (mark.OPENING ∷ []) bytes opened.0 opened.1 ∙ ap (λ (w : List ℕ). mark.OPENING ∷ w) inner)

regroup_row : (blanks first others rest : List ℕ)
    → mark.OPENING ∷ (blanks ++ (first ++ (others ++ rest))) ≡ (mark.OPENING ∷ (blanks ++ (first ++ others))) ++ rest
regroup_row blanks first others rest = simp append_assoc

row_takes : {A : Type 0} {IsText : A → List ℕ → Type 0} {Fits : A → Type 0} {field : Reader A}
    → IsReading IsText Fits field → (bytes : List ℕ) (x : (Atom × List A) × List ℕ) → row_at field bytes ≡ Ok x
    → Begins (IsRow IsText) (FitsRow Fits) bytes x
unfolding row_at
row_takes {A = A} {IsText = IsText} {Fits = Fits} {field = field} is bytes x e =
    let tag = bind_ok (tag_at bytes) (λ tag. fields_at field MAX_FIELDS tag.1 >>= λ fields. Ok ((tag.0, fields.0), fields.1)) x e in
    let fields = bind_ok (fields_at field MAX_FIELDS tag.0.1) (λ fields. Ok ((tag.0.0, fields.0), fields.1)) x tag.2 in
    let found : (Atom × List A) × List ℕ = ((tag.0.0, fields.0.0), fields.0.1) in
    let t = tag_takes bytes tag.0 tag.1 in
    let f = fields_takes is MAX_FIELDS tag.0.1 fields.0 fields.1 in
    let whole : bytes ≡ mark.OPENING ∷ (t.0 ++ (t.1 ++ (f.0 ++ fields.0.1))) = t.5 ∙ ap (λ (w : List ℕ). mark.OPENING ∷ (t.0 ++ (t.1 ++ w))) f.4 in
    subst (λ (y : (Atom × List A) × List ℕ). Begins (IsRow IsText) (FitsRow Fits) bytes y) {x = found} (ok_is found x fields.2)
    (mark.OPENING ∷ (t.0 ++ (t.1 ++ f.0)), (t.0, t.1, f.0, t.2, t.3, f.1, refl), (t.4, f.2, f.3), whole ∙ regroup_row t.0 t.1 f.0 fields.0.1)

open_again : (rest : List ℕ) → word_at (mark.OPENING ∷ []) (mark.OPENING ∷ rest) ≡ Ok rest
unfolding word_at
open_again rest = refl

tag_again : (blanks text rest : List ℕ) (tag : Atom) → AreBlanks blanks → IsAtomText tag text
    → IsSound tag → EndsNumeral rest → tag_at (mark.OPENING ∷ (blanks ++ (text ++ rest))) ≡ Ok (tag, rest)
unfolding tag_at
tag_again blanks text rest tag spaces is sound end =
    let inner : after_blanks (blanks ++ (text ++ rest)) ≡ text ++ rest = blanks_again blanks (text ++ rest) spaces ∙ atom_is.begins tag text rest is sound in
    rw (open_again (blanks ++ (text ++ rest)), inner) (atom_is.again tag text rest is sound end)

row_again : {A : Type 0} {IsText : A → List ℕ → Type 0} {Fits : A → Type 0} {field : Reader A}
    → IsReading IsText Fits field → (row : Atom × List A) (text rest : List ℕ) → IsRow IsText row text → FitsRow Fits row
    → row_at field (text ++ rest) ≡ Ok (row, rest)
unfolding row_at
row_again {A = A} {IsText = IsText} {Fits = Fits} {field = field} is row text rest (blanks, first, others, spaces, tag, are, parts) fits =
    let whole : text ++ rest ≡ mark.OPENING ∷ (blanks ++ (first ++ (others ++ rest))) =
    ap (λ (w : List ℕ). w ++ rest) parts ∙ sym (regroup_row blanks first others rest) in
    let one = tag_again blanks first (others ++ rest) row.0 spaces tag fits.0 (fields_end IsText row.1 others rest are) in
    let next = fields_again is MAX_FIELDS row.1 others rest are fits.1 fits.2 in
    rw (whole, one, next) refl

-- ---- readers that pass over blanks first

-- What is read is there after blanks, and fits; each value that fits and is there is read, if what follows ends it.
pub record IsSpaced {A : Type 0} (IsText : A → List ℕ → Type 0) (Fits : A → Type 0) (Ends : List ℕ → Type 0) (read : Reader A) : Type 0 where
  pub takes : (bytes : List ℕ) (x : A × List ℕ) → read bytes ≡ Ok x → Fits x.0 × Stands IsText x.0 bytes x.1
  pub again : (a : A) (bytes rest : List ℕ) → Stands IsText a bytes rest → Fits a → Ends rest → read bytes ≡ Ok (a, rest)

abbrev pub Anything : List ℕ → Type 0
Anything rest = Unit {0}

spaced_atom_takes : (bytes : List ℕ) (x : Atom × List ℕ) → spaced_atom_at bytes ≡ Ok x → IsSound x.0 × Stands IsAtomText x.0 bytes x.1
unfolding spaced_atom_at
spaced_atom_takes bytes x e =
    let b = blanks_take bytes in
    let t = atom_is.takes (after_blanks bytes) x e in
    (t.2, (b.0, t.0, b.1, t.1, b.2 ∙ ap (λ (w : List ℕ). b.0 ++ w) t.3))

spaced_atom_again : (a : Atom) (bytes rest : List ℕ) → Stands IsAtomText a bytes rest → IsSound a → EndsNumeral rest → spaced_atom_at bytes ≡ Ok (a, rest)
unfolding spaced_atom_at
spaced_atom_again a bytes rest (blanks, text, spaces, is, parts) fits end =
    let inner : after_blanks bytes ≡ text ++ rest = ap after_blanks parts ∙ blanks_again blanks (text ++ rest) spaces ∙ atom_is.begins a text rest is fits in
    rw inner (atom_is.again a text rest is fits end)

pub spaced_atom_is : IsSpaced IsAtomText IsSound EndsNumeral spaced_atom_at
spaced_atom_is = record { takes = spaced_atom_takes; again = spaced_atom_again }

-- No blank begins a row.
row_begins : {A : Type 0} (IsText : A → List ℕ → Type 0) (row : Atom × List A) (text rest : List ℕ)
    → IsRow IsText row text → after_blanks (text ++ rest) ≡ text ++ rest
row_begins IsText row text rest (blanks, first, others, spaces, tag, are, parts) = rw parts (no_blank mark.OPENING ((blanks ++ (first ++ others)) ++ rest) refl)

-- What is made of a row.
abbrev row_made : {A M : Type 0} → (Atom × List A → M) → Reader A → Reader M
row_made make field bytes = made make (row_at field (after_blanks bytes))

made_takes : {A M : Type 0} {IsText : A → List ℕ → Type 0} {Fits : A → Type 0} {field : Reader A}
    → IsReading IsText Fits field → (make : Atom × List A → M) (IsMade : M → List ℕ → Type 0) (FitsMade : M → Type 0)
    → ((row : Atom × List A) (text : List ℕ) → IsRow IsText row text → IsMade (make row) text)
    → ((row : Atom × List A) → FitsRow Fits row → FitsMade (make row))
    → (bytes : List ℕ) (x : M × List ℕ) → row_made make field bytes ≡ Ok x → FitsMade x.0 × Stands IsMade x.0 bytes x.1
made_takes {M = M} {field = field} is make IsMade FitsMade texts fit bytes x e =
    let row = bind_ok (row_at field (after_blanks bytes)) (λ row. Ok (make row.0, row.1)) x e in
    let found : M × List ℕ = (make row.0.0, row.0.1) in
    let b = blanks_take bytes in
    let t = row_takes is (after_blanks bytes) row.0 row.1 in
    subst (λ (y : M × List ℕ). FitsMade y.0 × Stands IsMade y.0 bytes y.1) {x = found} (ok_is found x row.2)
    (fit row.0.0 t.2, (b.0, t.0, b.1, texts row.0.0 t.0 t.1, b.2 ∙ ap (λ (w : List ℕ). b.0 ++ w) t.3))

made_again : {A M : Type 0} {IsText : A → List ℕ → Type 0} {Fits : A → Type 0} {field : Reader A}
    → IsReading IsText Fits field → (make : Atom × List A → M) (row : Atom × List A) (bytes rest : List ℕ)
    → Stands (IsRow IsText) row bytes rest → FitsRow Fits row → row_made make field bytes ≡ Ok (make row, rest)
made_again {IsText = IsText} is make row bytes rest (blanks, text, spaces, is_row, parts) fits =
    let inner : after_blanks bytes ≡ text ++ rest = ap after_blanks parts ∙ blanks_again blanks (text ++ rest) spaces
    ∙ row_begins IsText row text rest is_row in
    rw (inner, row_again is row text rest is_row fits) refl

tuple_takes : (bytes : List ℕ) (x : Tuple × List ℕ) → tuple_at bytes ≡ Ok x → IsWithin x.0 × Stands IsTupleText x.0 bytes x.1
unfolding tuple_at
tuple_takes bytes x e =
    made_takes atom_is tuple_of IsTupleText IsWithin (λ row text is. is)
    (λ row fits. record { count = fits.1; tag = fits.0; fields = All-from_recursion IsSound row.1 fits.2 }) bytes x e

tuple_again : (t : Tuple) (bytes rest : List ℕ) → Stands IsTupleText t bytes rest → IsWithin t → Anything rest → tuple_at bytes ≡ Ok (t, rest)
unfolding tuple_at
tuple_again t bytes rest stands within any =
    made_again atom_is tuple_of (t.tag, t.fields) bytes rest stands (within.tag, within.count, recursion_from_All IsSound t.fields within.fields)

pub tuple_is : IsSpaced IsTupleText IsWithin Anything tuple_at
tuple_is = record { takes = tuple_takes; again = tuple_again }

template_takes : (bytes : List ℕ) (x : Template × List ℕ) → template_at bytes ≡ Ok x → IsWithinTemplate x.0 × Stands IsTemplateText x.0 bytes x.1
unfolding template_at
template_takes bytes x e =
    made_takes pattern_is template_of IsTemplateText IsWithinTemplate (λ row text is. is)
    (λ row fits. record { count = fits.1; tag = fits.0; fields = All-from_recursion IsSoundPattern row.1 fits.2 }) bytes x e

template_again : (t : Template) (bytes rest : List ℕ) → Stands IsTemplateText t bytes rest
    → IsWithinTemplate t → Anything rest → template_at bytes ≡ Ok (t, rest)
unfolding template_at
template_again t bytes rest stands within any =
    made_again pattern_is template_of (t.tag, t.fields) bytes rest stands (within.tag, within.count, recursion_from_All IsSoundPattern t.fields within.fields)

pub template_is : IsSpaced IsTemplateText IsWithinTemplate Anything template_at
template_is = record { takes = template_takes; again = template_again }

-- A tag and fields that are read are within the limits.
pub tag_is_sound : (bytes : List ℕ) (x : Atom × List ℕ) → tag_at bytes ≡ Ok x → IsSound x.0
tag_is_sound bytes x e = let t = tag_takes bytes x e in t.4

pub are_within : {A : Type 0} {IsText : A → List ℕ → Type 0} {Fits : A → Type 0} {field : Reader A}
    → IsReading IsText Fits field → (bytes : List ℕ) (x : List A × List ℕ)
    → fields_at field MAX_FIELDS bytes ≡ Ok x → (length x.0 ≤ MAX_FIELDS) × All Fits x.0
are_within {Fits = Fits} is bytes x e = let f = fields_takes is MAX_FIELDS bytes x e in (f.2, All-from_recursion Fits x.0 f.3)
