-- Reading of a text: the value, or the first fault from the left.
use Rattle.std.specs.Prelude.{ℕ, zero, suc, ◌^◌, ◌==◌, ◌&&◌, ℤ, pos, neg_ℤ, Bool, true, false, not}
use Rattle.std.specs.Prelude.{nat_lt}
use Rattle.std.specs.Prelude.{List, [], ◌∷◌, length, take, drop, if◌then◌else◌}
use Rattle.std.specs.Prelude.{Option, Some, None, Result, Ok, Err}
use Rattle.std.specs.Char.{is_ascii_digit}
use Rattle.std.specs.Int.Signed.{mag}
use Rattle.std.specs.Str.{is_utf8}
use Rattle.std.specs.Str.Parse.{digits_value, without_leading_plus}
use Rattle.std.specs.Str.Parse.{true_text, false_text}
use Rattle.linda_tuple.specs.declared.atom.Atom.{Atom}
use Rattle.linda_tuple.specs.declared.atom.Atom.TheVariants as atoms
use Rattle.linda_tuple.specs.declared.pattern.Pattern.{Pattern}
use Rattle.linda_tuple.specs.declared.pattern.Pattern.TheVariants as patterns
use Rattle.linda_tuple.specs.declared.limits.TheConstants.{MAX_FIELDS, MAX_TEXT}
use Rattle.linda_tuple.specs.Tuple.{Tuple}
use Rattle.linda_tuple.specs.Template.{Template}
use Rattle.linda_text.specs.declared.fault.TextFault.{TextFault}
use Rattle.linda_text.specs.declared.fault.TextFault.TheVariants.{SyntaxAt, TooManyFields}
use Rattle.linda_text.specs.declared.fault.TextFault.TheVariants.{TextTooLong, NumberRange}
use Rattle.linda_text.specs.Letters.{is_blank, is_special, escaped}
use Rattle.linda_codec.specs.Steps.{◌>>=◌}
use Rattle.linda_text.specs.Steps.{Read, Reader}
use Rattle.linda_text.specs.declared.marks.TheConstants as mark

-- The fault of a text that does not go on at the first of these bytes, or that ends before them.
abbrev pub wrong : {A : Type 0} → List ℕ → Read A
wrong bytes = Err (SyntaxAt (length bytes))

-- The bytes after the blanks at the front.
unfoldable pub after_blanks : List ℕ → List ℕ
after_blanks [] = []
after_blanks (b ∷ rest) = if is_blank b then after_blanks rest else b ∷ rest

-- ---- words and marks

-- The bytes after the word.
unfoldable pub word_at : List ℕ → List ℕ → Result (List ℕ) TextFault
word_at [] bytes = Ok bytes
word_at (w ∷ word) [] = Err (SyntaxAt 0)
word_at (w ∷ word) (b ∷ rest) =
    if b == w then word_at word rest else Err (SyntaxAt (suc (length rest)))

-- The word, and what it represents.
abbrev pub named : {A : Type 0} → A → List ℕ → Reader A
named a word bytes = word_at word bytes >>= λ rest. Ok (a, rest)

-- ---- numbers

-- How many decimal digits are at the front.
unfoldable pub digit_count : List ℕ → ℕ
digit_count [] = 0
digit_count (b ∷ rest) = if is_ascii_digit b then suc (digit_count rest) else 0

-- The length of digits of which the first is not 0.
unfoldable pub positive_len : List ℕ → Result ℕ TextFault
positive_len [] = Err (SyntaxAt 0)
positive_len (b ∷ rest) =
    if is_ascii_digit b && not (b == mark.ZERO) then Ok (suc (digit_count rest))
    else Err (SyntaxAt (suc (length rest)))

-- The number that digits write, within 64 bits.
unfoldable pub number_of : List ℕ → Result ℕ TextFault
number_of digits =
    if nat_lt (digits_value 10 (without_leading_plus digits)) (2 ^ 64)
    then Ok (digits_value 10 (without_leading_plus digits)) else Err NumberRange

-- A number whose digits do not begin with 0.
unfoldable pub positive_at : Reader ℕ
positive_at bytes = do
  len ← positive_len bytes
  number ← number_of (take len bytes)
  Ok (number, drop len bytes)

-- A number without a sign: a single 0, or digits that do not begin with 0.
unfoldable pub natural_at : Reader ℕ
natural_at [] = wrong []
natural_at (b ∷ rest) = if b == mark.ZERO then Ok (0, rest) else positive_at (b ∷ rest)

-- The integer, within 64 bits.
unfoldable pub integer_of : ℤ → Result ℤ TextFault
integer_of integer = if nat_lt (mag integer) (2 ^ 63) then Ok integer else Err NumberRange

-- A number without a sign, or a minus before digits that do not begin with 0.
unfoldable pub integer_at : Reader ℤ
integer_at [] = wrong []
integer_at (b ∷ rest) =
    if b == mark.MINUS then (do
      number ← positive_at rest
      integer ← integer_of (neg_ℤ (pos number.0))
      Ok (integer, number.1))
    else (do
      number ← natural_at (b ∷ rest)
      integer ← integer_of (pos number.0)
      Ok (integer, number.1))

-- ---- strings

-- The byte that a letter after a backslash represents, if it is one.
abbrev pub chosen : Option ℕ → List ℕ → List ℕ → Read (Option ℕ)
chosen None here rest = wrong here
chosen (Some b) here rest = Ok (Some b, rest)

unfoldable pub escape_at : Reader (Option ℕ)
escape_at [] = wrong []
escape_at (e ∷ rest) = chosen (escaped e) (e ∷ rest) rest

-- The next byte that a string says; none at its closing quote.
unfoldable pub said_at : Reader (Option ℕ)
said_at [] = wrong []
said_at (b ∷ rest) =
    if b == mark.QUOTE then Ok (None, rest)
    else (if b == mark.BACKSLASH then escape_at rest
    else (if is_special b then wrong (b ∷ rest) else Ok (Some b, rest)))

-- A byte of a string, and those after it.
abbrev pub with_byte : ℕ → Read (List ℕ) → Read (List ℕ)
with_byte b read = read >>= λ x. Ok (b ∷ x.0, x.1)

-- The byte that an escape represents, if it is one, and the bytes of the string after it.
abbrev pub with_escape : Option ℕ → Read (List ℕ) → Read (List ℕ) → Read (List ℕ)
with_escape None fault read = fault
with_escape (Some b) fault read = with_byte b read

-- What a string says whose quote was opened, up to its closing quote; in an escape, a backslash is
-- before the first byte.
unfoldable pub content_at : Bool → Reader (List ℕ)
content_at in_escape [] = wrong []
content_at true (e ∷ rest) =
    with_escape (escaped e) (wrong (e ∷ rest)) (content_at false rest)
content_at false (b ∷ rest) =
    if b == mark.QUOTE then Ok ([], rest)
    else (if b == mark.BACKSLASH then content_at true rest
    else (if is_special b then wrong (b ∷ rest) else with_byte b (content_at false rest)))

-- What was found, if it is not too long for a string.
abbrev pub if_short : List ℕ × List ℕ → Read (List ℕ)
if_short found = if nat_lt MAX_TEXT (length found.0) then Err TextTooLong else Ok found

-- What was found, if it is UTF-8. (The bytes of every `str` are, and then so is what its strings
-- say.)
abbrev pub if_text : List ℕ × List ℕ → Read (List ℕ)
if_text found = if is_utf8 found.0 then Ok found else wrong found.1

-- What a string says that is not too long.
unfoldable pub short_at : Reader (List ℕ)
short_at bytes = content_at false bytes >>= if_short

unfoldable pub string_at : Reader (List ℕ)
string_at bytes = short_at bytes >>= if_text

-- ---- atoms and patterns

-- What is read, as what that makes.
abbrev pub made : {F A M : Type 0} → (A → M) → Result (A × List ℕ) F → Result (M × List ℕ) F
made make read = read >>= λ a. Ok (make a.0, a.1)

unfoldable pub atom_at : Reader Atom
atom_at [] = wrong []
atom_at (b ∷ rest) =
    if b == mark.QUOTE then made (λ t. atoms.Text t) (string_at rest)
    else (if b == mark.TRUE_LETTER then named (atoms.Bool true) true_text (b ∷ rest)
    else (if b == mark.FALSE_LETTER then named (atoms.Bool false) false_text (b ∷ rest)
    else made (λ n. atoms.Int n) (integer_at (b ∷ rest))))

-- The letter after a question mark.
unfoldable pub formal_at : Reader Pattern
formal_at [] = wrong []
formal_at (b ∷ rest) =
    if b == mark.INT_LETTER then Ok (patterns.IntFormal, rest)
    else (if b == mark.TEXT_LETTER then Ok (patterns.TextFormal, rest)
    else (if b == mark.BOOL_LETTER then Ok (patterns.BoolFormal, rest) else wrong (b ∷ rest)))

unfoldable pub pattern_at : Reader Pattern
pattern_at [] = wrong []
pattern_at (b ∷ rest) =
    if b == mark.QUESTION then formal_at rest
    else (if b == mark.WILDCARD then Ok (patterns.Any, rest)
    else made (λ v. patterns.Value v) (atom_at (b ∷ rest)))

-- ---- tuples and templates

-- A comma, after which a field follows, or the closing parenthesis.
unfoldable pub more_at : Reader Bool
more_at [] = wrong []
more_at (b ∷ rest) =
    if b == mark.COMMA then Ok (true, rest)
    else (if b == mark.CLOSING then Ok (false, rest) else wrong (b ∷ rest))

-- The closing parenthesis, if no more fields may follow.
unfoldable pub no_more_at : List ℕ → Result (List ℕ) TextFault
no_more_at bytes =
    more_at (after_blanks bytes) >>= λ more. if more.0 then Err TooManyFields else Ok more.1

-- The fields after a tag, of which so many may follow.
unfoldable pub fields_at : {A : Type 0} → Reader A → ℕ → Reader (List A)
fields_at field zero bytes = no_more_at bytes >>= λ rest. Ok ([], rest)
fields_at field (suc room) bytes = do
  more ← more_at (after_blanks bytes)
  if more.0 then (do
    first ← field (after_blanks more.1)
    others ← fields_at field room first.1
    Ok (first.0 ∷ others.0, others.1)) else Ok ([], more.1)

-- The opening parenthesis and the tag.
unfoldable pub tag_at : Reader Atom
tag_at bytes = word_at (mark.OPENING ∷ []) bytes >>= λ opened. atom_at (after_blanks opened)

unfoldable pub row_at : {A : Type 0} → Reader A → Reader (Atom × List A)
row_at field bytes = do
  tag ← tag_at bytes
  fields ← fields_at field MAX_FIELDS tag.1
  Ok ((tag.0, fields.0), fields.1)

abbrev pub tuple_of : Atom × List Atom → Tuple
tuple_of row = record { tag = row.0; fields = row.1 }

abbrev pub template_of : Atom × List Pattern → Template
template_of row = record { tag = row.0; fields = row.1 }

-- Blanks before it are passed over.
unfoldable pub tuple_at : Reader Tuple
tuple_at bytes = made tuple_of (row_at atom_at (after_blanks bytes))

unfoldable pub template_at : Reader Template
template_at bytes = made template_of (row_at pattern_at (after_blanks bytes))

-- An atom, after blanks.
unfoldable pub spaced_atom_at : Reader Atom
spaced_atom_at bytes = atom_at (after_blanks bytes)

-- Nothing is left.
abbrev pub ended : {A : Type 0} → A → List ℕ → Result A TextFault
ended a [] = Ok a
ended a (b ∷ rest) = Err (SyntaxAt (suc (length rest)))

-- A value that is all there is, but for blanks after it.
abbrev pub only_of : {A : Type 0} → Read A → Result A TextFault
only_of read = read >>= λ x. ended x.0 (after_blanks x.1)
