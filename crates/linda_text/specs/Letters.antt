-- The bytes that texts are made of: blanks, marks, and what is after a backslash.
use Rattle.std.specs.Prelude.{ℕ, Bool, true, false, ◌==◌, ◌||◌, List, [], ◌∷◌}
use Rattle.std.specs.Prelude.{Option, Some, None, if◌then◌else◌}
use Rattle.std.specs.Str.Parse.{true_text, false_text}
use Rattle.linda_text.specs.declared.marks.TheConstants as mark

-- A space or a tab.
abbrev pub is_blank : ℕ → Bool
is_blank b = b == mark.SPACE || b == mark.TAB

-- What may not be written as itself in a string: a quote, a backslash, a line feed, a carriage
-- return.
abbrev pub is_special : ℕ → Bool
is_special b =
    b == mark.QUOTE || b == mark.BACKSLASH || b == mark.LINE_FEED || b == mark.CARRIAGE_RETURN

-- What a letter after a backslash represents: \" \\ \n \t \r.
abbrev pub escaped : ℕ → Option ℕ
escaped e =
    if e == mark.QUOTE then Some mark.QUOTE
    else (if e == mark.BACKSLASH then Some mark.BACKSLASH
    else (if e == mark.FEED_LETTER then Some mark.LINE_FEED
    else (if e == mark.TAB_LETTER then Some mark.TAB
    else (if e == mark.RETURN_LETTER then Some mark.CARRIAGE_RETURN else None))))

-- `true` or `false`.
abbrev pub truth_word : Bool → List ℕ
truth_word true = true_text
truth_word false = false_text

-- `?i`, `?s`, `?b`, and `_`.
abbrev pub int_word : List ℕ
int_word = mark.QUESTION ∷ mark.INT_LETTER ∷ []

abbrev pub text_word : List ℕ
text_word = mark.QUESTION ∷ mark.TEXT_LETTER ∷ []

abbrev pub bool_word : List ℕ
bool_word = mark.QUESTION ∷ mark.BOOL_LETTER ∷ []

abbrev pub any_word : List ℕ
any_word = mark.WILDCARD ∷ []
