-- The words that texts of events are made of, and how they are read.
use Rattle.std.specs.Prelude.{◌≡◌, ℕ, suc, Bool, true, false, ◌==◌, if◌then◌else◌}
use Rattle.std.specs.Prelude.{List, [], ◌∷◌, length, Option, Some, None, Result, Ok, Err, codes}
use Rattle.std.specs.Char.{is_ascii_alphanumeric}
use Rattle.linda_text.specs.declared.fault.TextFault.{TextFault}
use Rattle.linda_codec.specs.Steps.{◌>>=◌}
use Rattle.linda_text.specs.Steps.{Reader}
use Rattle.linda_text.specs.declared.fault.TextFault.TheVariants.{SyntaxAt}
use Rattle.linda_text.specs.Reading.{wrong, after_blanks, word_at, natural_at}
use Rattle.linda_text.specs.declared.marks.TheConstants.{COMMA}
use Rattle.linda_shell_text.specs.declared.marks.TheConstants.{OPENING_BRACKET, CLOSING_BRACKET}
use Rattle.linda_shell_text.specs.declared.marks.TheConstants.{IN_LETTER, RD_LETTER, A_LETTER}
use Rattle.linda_shell_text.specs.declared.marks.TheConstants.{N_LETTER}
use Rattle.linda_shell_text.specs.declared.marks.TheConstants.{CHOOSE_LETTER, WRAP_LETTER}
use Rattle.linda_shell_text.specs.declared.marks.TheConstants.{ALWAYS_LETTER, NACK_LETTER}
use Rattle.linda_shell_text.specs.declared.keyword.Keyword.{Keyword}
use Rattle.linda_shell_text.specs.declared.keyword.Keyword.TheVariants as keywords

-- `in`, `rd`, `alarm`, `always`, `never`, `choose`, `wrap`, `nack`.
abbrev pub keyword_text : Keyword → List ℕ
keyword_text keywords.In = codes "in"
keyword_text keywords.Rd = codes "rd"
keyword_text keywords.Alarm = codes "alarm"
keyword_text keywords.Always = codes "always"
keyword_text keywords.Never = codes "never"
keyword_text keywords.Choose = codes "choose"
keyword_text keywords.Wrap = codes "wrap"
keyword_text keywords.Nack = codes "nack"

-- No letter or digit is at the front: with one there, a keyword or a number before it would go on.
abbrev pub EndsWord : List ℕ → Type 0
EndsWord [] = Unit {0}
EndsWord (b ∷ rest) = is_ascii_alphanumeric b ≡ false

-- ---- which keyword may be at the front: two begin with `a`, and two with `n`

-- Whether the third letter of what begins with `a` is that of `always`; here are those after the
-- first.
abbrev pub is_always : List ℕ → Bool
is_always [] = false
is_always (b ∷ []) = false
is_always (b ∷ c ∷ rest) = c == ALWAYS_LETTER

-- Whether the second letter of what begins with `n` is that of `nack`.
abbrev pub is_nack : List ℕ → Bool
is_nack [] = false
is_nack (b ∷ rest) = b == NACK_LETTER

abbrev pub a_word : Bool → Keyword
a_word true = keywords.Always
a_word false = keywords.Alarm

abbrev pub n_word : Bool → Keyword
n_word true = keywords.Nack
n_word false = keywords.Never

unfoldable pub candidate : List ℕ → Option Keyword
candidate [] = None
candidate (b ∷ rest) =
    if b == IN_LETTER then Some keywords.In
    else (if b == RD_LETTER then Some keywords.Rd
    else (if b == A_LETTER then Some (a_word (is_always rest))
    else (if b == N_LETTER then Some (n_word (is_nack rest))
    else (if b == CHOOSE_LETTER then Some keywords.Choose
    else (if b == WRAP_LETTER then Some keywords.Wrap else None)))))

-- ---- reading

-- The bytes, if no letter or digit is at their front.
unfoldable pub word_end : List ℕ → Result (List ℕ) TextFault
word_end [] = Ok []
word_end (b ∷ rest) =
    if is_ascii_alphanumeric b then Err (SyntaxAt (suc (length rest))) else Ok (b ∷ rest)

-- The keyword, and the bytes after it.
abbrev pub chosen_word : Option Keyword → Reader Keyword
chosen_word None bytes = wrong bytes
chosen_word (Some keyword) bytes = do
  rest ← word_at (keyword_text keyword) bytes
  behind ← word_end rest
  Ok (keyword, behind)

-- The keyword at the front, after which it ends.
unfoldable pub keyword_at : Reader Keyword
keyword_at bytes = chosen_word (candidate bytes) bytes

-- A number after blanks, after which it ends.
unfoldable pub label_at : Reader ℕ
label_at bytes = do
  number ← natural_at (after_blanks bytes)
  behind ← word_end number.1
  Ok (number.0, behind)

-- The bytes after a word at the front, after which it ends, and after blanks.
unfoldable pub behind_word_at : List ℕ → List ℕ → Result (List ℕ) TextFault
behind_word_at word bytes = do
  rest ← word_at word bytes
  behind ← word_end rest
  Ok (after_blanks behind)

-- A number at the front, after which it ends, and the bytes after blanks.
unfoldable pub front_number_at : Reader ℕ
front_number_at bytes = do
  number ← natural_at bytes
  behind ← word_end number.1
  Ok (number.0, after_blanks behind)

-- What is read is found, and nothing is found if reading gives a fault.
abbrev pub Finds : {X Y : Type 0} → (X → Y) → Option X → Result Y TextFault → Type 0
Finds view (Some x) read = read ≡ Ok (view x)
Finds view None read = (fault : TextFault) × (read ≡ Err fault)

-- Whether members follow an opening bracket, and the bytes from the first one on; or those after
-- the closing bracket.
abbrev pub inside : List ℕ → Bool × List ℕ
inside [] = (true, [])
inside (b ∷ rest) = if b == CLOSING_BRACKET then (false, rest) else (true, b ∷ rest)

-- The opening bracket after blanks, and whether members follow it.
unfoldable pub open_at : Reader Bool
open_at bytes = do
  rest ← word_at (OPENING_BRACKET ∷ []) (after_blanks bytes)
  Ok (inside (after_blanks rest))

-- A comma, after which a member follows, or the closing bracket.
unfoldable pub mark_at : Reader Bool
mark_at [] = wrong []
mark_at (b ∷ rest) =
    if b == COMMA then Ok (true, rest)
    else (if b == CLOSING_BRACKET then Ok (false, rest) else wrong (b ∷ rest))
