-- The grammar: which texts represent an atom, a pattern, a tuple, a template. Texts are lists of
-- bytes.
use Rattle.std.specs.Prelude.{◌≡◌, ℕ, true, false, List, [], ◌∷◌, ◌++◌, ◌⊎◌, Some}
use Rattle.std.specs.Prelude.{drop}
use Rattle.std.specs.List.{AllByRecursion}
use Rattle.std.specs.Char.{is_ascii_digit}
use Rattle.std.specs.Fmt.{signed_decimal}
use Rattle.linda_tuple.specs.declared.atom.Atom.{Atom}
use Rattle.linda_tuple.specs.declared.atom.Atom.TheVariants as atoms
use Rattle.linda_tuple.specs.declared.pattern.Pattern.{Pattern}
use Rattle.linda_tuple.specs.declared.pattern.Pattern.TheVariants as patterns
use Rattle.linda_tuple.specs.Atom.{IsSound}
use Rattle.linda_tuple.specs.Tuple.{Tuple, IsWithin}
use Rattle.linda_tuple.specs.Template.{Template, IsWithinTemplate}
use Rattle.linda_text.specs.Letters.{is_blank, is_special, escaped, truth_word}
use Rattle.linda_text.specs.Letters.{int_word, text_word, bool_word, any_word}
use Rattle.linda_text.specs.declared.marks.TheConstants as mark

-- Spaces and tabs, or nothing: what may be between tokens.
abbrev pub AreBlanks : List ℕ → Type 0
AreBlanks bytes = AllByRecursion (λ b. is_blank b ≡ true) bytes

-- A byte that is written as itself: any that is not special. The bytes of a character beyond ASCII
-- are never special, so such a character is written as itself; so are tabs and control characters.
abbrev pub IsPlain : ℕ → List ℕ → Type 0
IsPlain b form = (is_special b ≡ false) × (form ≡ b ∷ [])

-- A byte that is written as an escape: a backslash, and the letter that represents the byte.
abbrev pub IsEscape : ℕ → List ℕ → Type 0
IsEscape b form = (e : ℕ) × (escaped e ≡ Some b) × (form ≡ mark.BACKSLASH ∷ e ∷ [])

abbrev pub IsForm : ℕ → List ℕ → Type 0
IsForm b form = IsPlain b form ⊎ IsEscape b form

-- What is between the quotes of a string: each of its bytes in one of its forms.
abbrev pub IsContent : List ℕ → List ℕ → Type 0
IsContent [] text = text ≡ []
IsContent (b ∷ bytes) text =
    (form rest : List ℕ) × IsForm b form × IsContent bytes rest × (text ≡ form ++ rest)

-- A text of the atom: the decimal digits of an integer, which has one text; a string between
-- quotes; `true` or `false`.
abbrev pub IsAtomText : Atom → List ℕ → Type 0
IsAtomText (atoms.Int n) text = text ≡ signed_decimal n
IsAtomText (atoms.Text t) text =
    (content : List ℕ) × IsContent t content × (text ≡ mark.QUOTE ∷ (content ++ mark.QUOTE ∷ []))
IsAtomText (atoms.Bool b) text = text ≡ truth_word b

-- A text of the pattern: of its value, or the formal's sign, or the wildcard's.
abbrev pub IsPatternText : Pattern → List ℕ → Type 0
IsPatternText (patterns.Value v) text = IsAtomText v text
IsPatternText patterns.IntFormal text = text ≡ int_word
IsPatternText patterns.TextFormal text = text ≡ text_word
IsPatternText patterns.BoolFormal text = text ≡ bool_word
IsPatternText patterns.Any text = text ≡ any_word

-- No digit is at the front: if one is, the digits of an integer before it go on.
abbrev pub EndsNumeral : List ℕ → Type 0
EndsNumeral [] = Unit {0}
EndsNumeral (b ∷ rest) = is_ascii_digit b ≡ false

-- The fields that follow the tag: before each a comma, after the last one the closing parenthesis,
-- and blanks before each token.
abbrev pub AreFields : {A : Type 0} → (A → List ℕ → Type 0) → List A → List ℕ → Type 0
AreFields IsText [] text =
    (blanks : List ℕ) × AreBlanks blanks × (text ≡ blanks ++ mark.CLOSING ∷ [])
AreFields IsText (a ∷ others) text =
    (before between field rest : List ℕ) × AreBlanks before × AreBlanks between
    × IsText a field × AreFields IsText others rest
    × (text ≡ before ++ mark.COMMA ∷ (between ++ (field ++ rest)))

-- The opening parenthesis, the tag, the fields.
abbrev pub IsRowText : {A : Type 0} → (A → List ℕ → Type 0) → Atom → List A → List ℕ → Type 0
IsRowText IsText tag fields text =
    (blanks first rest : List ℕ) × AreBlanks blanks
    × IsAtomText tag first × AreFields IsText fields rest
    × (text ≡ mark.OPENING ∷ (blanks ++ (first ++ rest)))

-- A text of the tuple, from its parenthesis to its parenthesis.
abbrev pub IsTupleText : Tuple → List ℕ → Type 0
IsTupleText tuple text = IsRowText IsAtomText tuple.tag tuple.fields text

-- A text of the template, from its parenthesis to its parenthesis.
abbrev pub IsTemplateText : Template → List ℕ → Type 0
IsTemplateText template text = IsRowText IsPatternText template.tag template.fields text

-- A text of the value is at the front, after blanks or none, and these are the bytes after it.
abbrev pub Stands : {A : Type 0} → (A → List ℕ → Type 0) → A → List ℕ → List ℕ → Type 0
Stands IsText a bytes rest =
    (blanks text : List ℕ) × AreBlanks blanks × IsText a text × (bytes ≡ blanks ++ (text ++ rest))

-- A text of the value is all there is, but for blanks.
abbrev pub IsAlone : {A : Type 0} → (A → List ℕ → Type 0) → A → List ℕ → Type 0
IsAlone IsText a bytes = (behind : List ℕ) × AreBlanks behind × Stands IsText a bytes behind

-- ---- within the limits

-- A tuple within its limits is all there is.
abbrev pub IsTupleAlone : List ℕ → Tuple → Type 0
IsTupleAlone bytes tuple = IsWithin tuple × IsAlone IsTupleText tuple bytes

-- A template within its limits is all there is.
abbrev pub IsTemplateAlone : List ℕ → Template → Type 0
IsTemplateAlone bytes template = IsWithinTemplate template × IsAlone IsTemplateText template bytes

-- A template within its limits is there from the offset on, and these are the bytes after it.
abbrev pub IsTemplateAt : List ℕ → ℕ → Template → List ℕ → Type 0
IsTemplateAt bytes at template rest =
    IsWithinTemplate template × Stands IsTemplateText template (drop at bytes) rest

-- An atom within its limits is there from the offset on, and these are the bytes after it.
abbrev pub IsAtomAt : List ℕ → ℕ → Atom → List ℕ → Type 0
IsAtomAt bytes at atom rest = IsSound atom × Stands IsAtomText atom (drop at bytes) rest
