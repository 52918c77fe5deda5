-- The one text in which a value is written.
use Rattle.std.specs.Prelude.{◌≡◌, ℕ, ◌==◌, List, [], ◌∷◌, ◌++◌, if◌then◌else◌}
use Rattle.std.specs.Prelude.{String, string_bytes}
use Rattle.std.specs.declared.alloc.Global.{Global}
use Rattle.std.specs.List.{flat_map}
use Rattle.std.specs.Fmt.{signed_decimal}
use Rattle.linda_tuple.specs.declared.atom.Atom.{Atom}
use Rattle.linda_tuple.specs.declared.atom.Atom.TheVariants as atoms
use Rattle.linda_tuple.specs.declared.pattern.Pattern.{Pattern}
use Rattle.linda_tuple.specs.declared.pattern.Pattern.TheVariants as patterns
use Rattle.linda_tuple.specs.Tuple.{Tuple}
use Rattle.linda_tuple.specs.Template.{Template}
use Rattle.linda_text.specs.Letters.{truth_word, int_word, text_word, bool_word, any_word}
use Rattle.linda_text.specs.declared.marks.TheConstants as mark

-- These bytes were written after what was there.
abbrev pub IsWrittenBehind : String Global → String Global → List ℕ → Type 0
IsWrittenBehind old new bytes = string_bytes new ≡ string_bytes old ++ bytes

-- A byte of a string: `"`, `\`, line feed, tab and carriage return as escapes, each other one as
-- itself.
abbrev pub written_byte : ℕ → List ℕ
written_byte b =
    if b == mark.QUOTE then mark.BACKSLASH ∷ mark.QUOTE ∷ []
    else (if b == mark.BACKSLASH then mark.BACKSLASH ∷ mark.BACKSLASH ∷ []
    else (if b == mark.LINE_FEED then mark.BACKSLASH ∷ mark.FEED_LETTER ∷ []
    else (if b == mark.TAB then mark.BACKSLASH ∷ mark.TAB_LETTER ∷ []
    else (if b == mark.CARRIAGE_RETURN then mark.BACKSLASH ∷ mark.RETURN_LETTER ∷ [] else b ∷ []))))

abbrev pub written_string : List ℕ → List ℕ
written_string bytes = mark.QUOTE ∷ (flat_map written_byte bytes ++ mark.QUOTE ∷ [])

abbrev pub written_atom : Atom → List ℕ
written_atom (atoms.Int n) = signed_decimal n
written_atom (atoms.Text t) = written_string t
written_atom (atoms.Bool b) = truth_word b

abbrev pub written_pattern : Pattern → List ℕ
written_pattern (patterns.Value v) = written_atom v
written_pattern patterns.IntFormal = int_word
written_pattern patterns.TextFormal = text_word
written_pattern patterns.BoolFormal = bool_word
written_pattern patterns.Any = any_word

-- A field after its comma and one space.
abbrev pub written_field : {A : Type 0} → (A → List ℕ) → A → List ℕ
written_field written field = mark.COMMA ∷ mark.SPACE ∷ written field

-- The opening parenthesis, the tag, the fields after it, and the closing parenthesis.
abbrev pub written_row : {A : Type 0} → (A → List ℕ) → Atom → List A → List ℕ
written_row written tag fields =
    mark.OPENING ∷ (written_atom tag
    ++ (flat_map (written_field written) fields ++ mark.CLOSING ∷ []))

abbrev pub written_tuple : Tuple → List ℕ
written_tuple tuple = written_row written_atom tuple.tag tuple.fields

abbrev pub written_template : Template → List ℕ
written_template template = written_row written_pattern template.tag template.fields
