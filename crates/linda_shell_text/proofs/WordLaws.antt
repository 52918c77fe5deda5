-- What the readers of keywords, labels, commas and brackets read is such a text, and each such text is read again.
use Rattle.std.proofs.Common.{◌≡◌, ℕ, suc, ◌^◌, ◌<◌, ◌≤◌, Bool, true, false, cond, List, [], ◌∷◌, ◌++◌, length, Ok, Err, refl, ap, subst, ◌∙◌, arith}
use Rattle.std.specs.Prelude.{Option, Some, None, ◌==◌}
use Rattle.std.specs.Char.{is_ascii_alphanumeric}
use Rattle.std.specs.Fmt.{decimal}
use Rattle.std.proofs.lemmas.Bool.{eqb-true, or_parts}
use Rattle.linda_text.specs.declared.fault.TextFault.TheVariants.{SyntaxAt}
use Rattle.linda_text.specs.Grammar.{AreBlanks, EndsNumeral}
use Rattle.linda_codec.specs.Steps.{◌>>=◌}
use Rattle.linda_text.specs.Reading.{after_blanks, wrong, word_at, natural_at}
use Rattle.linda_codec.proofs.TakeLaws.{bind_ok, ok_is}
use Rattle.linda_text.proofs.BlankLaws.{blanks_take, blanks_again, no_blank, beyond_blanks}
use Rattle.linda_text.proofs.NumeralLaws.{natural_takes, natural_again, natural_begins}
use Rattle.linda_text.proofs.AtomLaws.{word_takes}
use Rattle.linda_text.specs.declared.marks.TheConstants.{COMMA}
use Rattle.linda_shell_text.specs.declared.marks.TheConstants.{OPENING_BRACKET, CLOSING_BRACKET}
use Rattle.linda_shell_text.specs.declared.keyword.Keyword.{Keyword}
use Rattle.linda_shell_text.specs.declared.keyword.Keyword.TheVariants as keywords
use Rattle.linda_shell_text.specs.Words.{keyword_text, EndsWord, candidate, chosen_word, word_end, keyword_at, label_at, inside, open_at, mark_at}

-- ---- ends of words

-- If bytes end a word, the front of these bytes ends it too.
pub ends_front : (xs ys : List ℕ) → EndsWord (xs ++ ys) → EndsWord xs
ends_front [] ys e = tt
ends_front (b ∷ xs) ys e = e

pub ends_both : (xs ys : List ℕ) → EndsWord xs → EndsWord ys → EndsWord (xs ++ ys)
ends_both [] ys e f = f
ends_both (b ∷ xs) ys e f = e

-- What ends a word ends a numeral.
pub ends_numeral : (rest : List ℕ) → EndsWord rest → EndsNumeral rest
ends_numeral [] e = tt
ends_numeral (b ∷ rest) e =
    let first = or_parts _ _ e in
    let second = or_parts _ _ first.0 in
    second.0

end_by : (t : Bool) (b : ℕ) (rest behind : List ℕ) → is_ascii_alphanumeric b ≡ t
    → cond t (Err (SyntaxAt (suc (length rest)))) (Ok (b ∷ rest)) ≡ Ok behind → (b ∷ rest ≡ behind) × EndsWord behind
end_by true b rest behind is e = absurd cc
end_by false b rest behind is e =
    let same : b ∷ rest ≡ behind = ok_is (b ∷ rest) behind e in
    (same, subst EndsWord same is)

pub end_takes : (bytes behind : List ℕ) → word_end bytes ≡ Ok behind → (bytes ≡ behind) × EndsWord behind
unfolding word_end
end_takes [] behind e = let same : [] ≡ behind = ok_is [] behind e in (same, subst EndsWord same tt)
end_takes (b ∷ rest) behind e = end_by (is_ascii_alphanumeric b) b rest behind refl e

pub end_again : (rest : List ℕ) → EndsWord rest → word_end rest ≡ Ok rest
unfolding word_end
end_again [] ends = refl
end_again (b ∷ rest) ends = rw ends refl

-- ---- keywords

chosen_takes : (o : Option Keyword) (bytes : List ℕ) (x : Keyword × List ℕ) → chosen_word o bytes ≡ Ok x → (bytes ≡ keyword_text x.0 ++ x.1) × EndsWord x.1
chosen_takes None bytes x e = absurd cc
chosen_takes (Some k) bytes x e =
    let w = bind_ok (word_at (keyword_text k) bytes) (λ rest. word_end rest >>= λ behind. Ok (k, behind)) x e in
    let b = bind_ok (word_end w.0) (λ behind. Ok (k, behind)) x w.2 in
    let end = end_takes w.0 b.0 b.1 in
    let found : Keyword × List ℕ = (k, b.0) in
    subst (λ (y : Keyword × List ℕ). (bytes ≡ keyword_text y.0 ++ y.1) × EndsWord y.1) {x = found} (ok_is found x b.2)
    (word_takes (keyword_text k) bytes w.0 w.1 ∙ ap (λ (t : List ℕ). keyword_text k ++ t) end.0, end.1)

pub keyword_takes : (bytes : List ℕ) (x : Keyword × List ℕ) → keyword_at bytes ≡ Ok x → (bytes ≡ keyword_text x.0 ++ x.1) × EndsWord x.1
unfolding keyword_at
keyword_takes bytes x e = chosen_takes (candidate bytes) bytes x e

candidate_again : (k : Keyword) (rest : List ℕ) → candidate (keyword_text k ++ rest) ≡ Some k
unfolding candidate
candidate_again keywords.In rest = refl
candidate_again keywords.Rd rest = refl
candidate_again keywords.Alarm rest = refl
candidate_again keywords.Always rest = refl
candidate_again keywords.Never rest = refl
candidate_again keywords.Choose rest = refl
candidate_again keywords.Wrap rest = refl
candidate_again keywords.Nack rest = refl

word_again : (k : Keyword) (rest : List ℕ) → word_at (keyword_text k) (keyword_text k ++ rest) ≡ Ok rest
unfolding word_at
word_again keywords.In rest = refl
word_again keywords.Rd rest = refl
word_again keywords.Alarm rest = refl
word_again keywords.Always rest = refl
word_again keywords.Never rest = refl
word_again keywords.Choose rest = refl
word_again keywords.Wrap rest = refl
word_again keywords.Nack rest = refl

pub keyword_again : (k : Keyword) (rest : List ℕ) → EndsWord rest → keyword_at (keyword_text k ++ rest) ≡ Ok (k, rest)
unfolding keyword_at
keyword_again k rest ends = rw (candidate_again k rest, word_again k rest, end_again rest ends) refl

-- No blank and no bracket begins a keyword.
pub keyword_begins : (k : Keyword) (rest : List ℕ) → after_blanks (keyword_text k ++ rest) ≡ keyword_text k ++ rest
unfolding after_blanks
keyword_begins keywords.In rest = refl
keyword_begins keywords.Rd rest = refl
keyword_begins keywords.Alarm rest = refl
keyword_begins keywords.Always rest = refl
keyword_begins keywords.Never rest = refl
keyword_begins keywords.Choose rest = refl
keyword_begins keywords.Wrap rest = refl
keyword_begins keywords.Nack rest = refl

pub keyword_inside : (k : Keyword) (rest : List ℕ) → inside (keyword_text k ++ rest) ≡ (true, keyword_text k ++ rest)
keyword_inside keywords.In rest = refl
keyword_inside keywords.Rd rest = refl
keyword_inside keywords.Alarm rest = refl
keyword_inside keywords.Always rest = refl
keyword_inside keywords.Never rest = refl
keyword_inside keywords.Choose rest = refl
keyword_inside keywords.Wrap rest = refl
keyword_inside keywords.Nack rest = refl

pub keyword_long : (k : Keyword) → 1 ≤ length (keyword_text k)
keyword_long keywords.In = omega arith
keyword_long keywords.Rd = omega arith
keyword_long keywords.Alarm = omega arith
keyword_long keywords.Always = omega arith
keyword_long keywords.Never = omega arith
keyword_long keywords.Choose = omega arith
keyword_long keywords.Wrap = omega arith
keyword_long keywords.Nack = omega arith

-- ---- numbers

-- Blanks, and the digits of a number of 64 bits.
pub number_takes : (bytes : List ℕ) (x : ℕ × List ℕ) → natural_at (after_blanks bytes) ≡ Ok x
    → (blanks : List ℕ) × AreBlanks blanks × (x.0 < 2 ^ 64) × (bytes ≡ blanks ++ (decimal x.0 ++ x.1))
number_takes bytes x e =
    let b = blanks_take bytes in
    let n = natural_takes (after_blanks bytes) x e in
    (b.0, b.1, n.1, b.2 ∙ ap (λ (t : List ℕ). b.0 ++ t) n.0)

number_begins : (n : ℕ) (rest : List ℕ) → n < 2 ^ 64 → after_blanks (decimal n ++ rest) ≡ decimal n ++ rest
number_begins n rest lt =
    let b = natural_begins n lt in
    rw (b.2) (no_blank b.0 (b.1 ++ rest) (beyond_blanks b.0 (omega (arith, b.3))))

pub number_again : (blanks : List ℕ) (n : ℕ) (rest : List ℕ) → AreBlanks blanks → n < 2 ^ 64
    → EndsWord rest → natural_at (after_blanks (blanks ++ (decimal n ++ rest))) ≡ Ok (n, rest)
number_again blanks n rest spaces lt ends =
    let inner : after_blanks (blanks ++ (decimal n ++ rest)) ≡ decimal n ++ rest = blanks_again blanks (decimal n ++ rest) spaces ∙ number_begins n rest lt in
    rw inner (natural_again n rest lt (ends_numeral rest ends))

pub label_takes : (bytes : List ℕ) (x : ℕ × List ℕ) → label_at bytes ≡ Ok x
    → (blanks : List ℕ) × AreBlanks blanks × (x.0 < 2 ^ 64) × EndsWord x.1 × (bytes ≡ blanks ++ (decimal x.0 ++ x.1))
unfolding label_at
label_takes bytes x e =
    let n = bind_ok (natural_at (after_blanks bytes)) (λ number. word_end number.1 >>= λ behind. Ok (number.0, behind)) x e in
    let b = bind_ok (word_end n.0.1) (λ behind. Ok (n.0.0, behind)) x n.2 in
    let end = end_takes n.0.1 b.0 b.1 in
    let t = number_takes bytes n.0 n.1 in
    let found : ℕ × List ℕ = (n.0.0, b.0) in
    subst (λ (y : ℕ × List ℕ). (blanks : List ℕ) × AreBlanks blanks × (y.0 < 2 ^ 64) × EndsWord y.1
    × (bytes ≡ blanks ++ (decimal y.0 ++ y.1))) {x = found} (ok_is found x b.2)
    (t.0, t.1, t.2, end.1, t.3 ∙ ap (λ (w : List ℕ). t.0 ++ (decimal n.0.0 ++ w)) end.0)

pub label_again : (blanks : List ℕ) (n : ℕ) (rest : List ℕ) → AreBlanks blanks → n < 2 ^ 64 → EndsWord rest
    → label_at (blanks ++ (decimal n ++ rest)) ≡ Ok (n, rest)
unfolding label_at
label_again blanks n rest spaces lt ends = rw (number_again blanks n rest spaces lt ends, end_again rest ends) refl

-- ---- commas and brackets

abbrev pub mark_of : Bool → ℕ
mark_of true = COMMA
mark_of false = CLOSING_BRACKET

mark_by : (comma close : Bool) (b : ℕ) (rest : List ℕ) (x : Bool × List ℕ) → (b == COMMA) ≡ comma → (b == CLOSING_BRACKET) ≡ close
    → cond comma (Ok (true, rest)) (cond close (Ok (false, rest)) (wrong (b ∷ rest))) ≡ Ok x → b ∷ rest ≡ mark_of x.0 ∷ x.1
mark_by true close b rest x is_comma is_close e =
    let found : Bool × List ℕ = (true, rest) in
    subst (λ (y : Bool × List ℕ). b ∷ rest ≡ mark_of y.0 ∷ y.1) {x = found} (ok_is found x e) (ap (λ (c : ℕ). c ∷ rest) (eqb-true b COMMA is_comma))
mark_by false true b rest x is_comma is_close e =
    let found : Bool × List ℕ = (false, rest) in
    subst (λ (y : Bool × List ℕ). b ∷ rest ≡ mark_of y.0 ∷ y.1) {x = found} (ok_is found x e) (ap (λ (c : ℕ). c ∷ rest) (eqb-true b CLOSING_BRACKET is_close))
mark_by false false b rest x is_comma is_close e = absurd cc

mark_front : (bytes : List ℕ) (x : Bool × List ℕ) → mark_at bytes ≡ Ok x → bytes ≡ mark_of x.0 ∷ x.1
unfolding mark_at
mark_front [] x e = absurd cc
mark_front (b ∷ rest) x e = mark_by (b == COMMA) (b == CLOSING_BRACKET) b rest x refl refl e

pub mark_takes : (bytes : List ℕ) (x : Bool × List ℕ) → mark_at (after_blanks bytes) ≡ Ok x
    → (blanks : List ℕ) × AreBlanks blanks × (bytes ≡ blanks ++ mark_of x.0 ∷ x.1)
mark_takes bytes x e =
    let b = blanks_take bytes in
    (b.0, b.1, b.2 ∙ ap (λ (t : List ℕ). b.0 ++ t) (mark_front (after_blanks bytes) x e))

pub comma_again : (blanks rest : List ℕ) → AreBlanks blanks → mark_at (after_blanks (blanks ++ COMMA ∷ rest)) ≡ Ok (true, rest)
unfolding mark_at after_blanks
comma_again blanks rest all = rw (blanks_again blanks (COMMA ∷ rest) all) refl

pub close_again : (blanks rest : List ℕ) → AreBlanks blanks → mark_at (after_blanks (blanks ++ CLOSING_BRACKET ∷ rest)) ≡ Ok (false, rest)
unfolding mark_at after_blanks
close_again blanks rest all = rw (blanks_again blanks (CLOSING_BRACKET ∷ rest) all) refl

-- What comes after an opening bracket: members, or the closing bracket.
abbrev pub opened : Bool × List ℕ → List ℕ
opened (true, rest) = rest
opened (false, rest) = CLOSING_BRACKET ∷ rest

inside_by : (t : Bool) (b : ℕ) (rest : List ℕ) → (b == CLOSING_BRACKET) ≡ t → b ∷ rest ≡ opened (cond t (false, rest) (true, b ∷ rest))
inside_by true b rest is = ap (λ (c : ℕ). c ∷ rest) (eqb-true b CLOSING_BRACKET is)
inside_by false b rest is = refl

inside_is : (bytes : List ℕ) → bytes ≡ opened (inside bytes)
inside_is [] = refl
inside_is (b ∷ rest) = inside_by (b == CLOSING_BRACKET) b rest refl

pub open_takes : (bytes : List ℕ) (x : Bool × List ℕ) → open_at bytes ≡ Ok x
    → (before between : List ℕ) × AreBlanks before × AreBlanks between × (bytes ≡ before ++ OPENING_BRACKET ∷ (between ++ opened x))
unfolding open_at
open_takes bytes x e =
    let w = bind_ok (word_at (OPENING_BRACKET ∷ []) (after_blanks bytes)) (λ rest. Ok (inside (after_blanks rest))) x e in
    let b = blanks_take bytes in
    let c = blanks_take w.0 in
    let found : Bool × List ℕ = inside (after_blanks w.0) in
    let inner : w.0 ≡ c.0 ++ opened found = c.2 ∙ ap (λ (t : List ℕ). c.0 ++ t) (inside_is (after_blanks w.0)) in
    let word : after_blanks bytes ≡ OPENING_BRACKET ∷ (c.0 ++ opened found) =
    word_takes (OPENING_BRACKET ∷ []) (after_blanks bytes) w.0 w.1 ∙ ap (λ (t : List ℕ). OPENING_BRACKET ∷ t) inner in
    subst (λ (y : Bool × List ℕ). (before between : List ℕ) × AreBlanks before × AreBlanks between
    × (bytes ≡ before ++ OPENING_BRACKET ∷ (between ++ opened y))) {x = found} (ok_is found x w.2)
    (b.0, c.0, b.1, c.1, b.2 ∙ ap (λ (t : List ℕ). b.0 ++ t) word)

pub open_again : (before between rest : List ℕ) → AreBlanks before → AreBlanks between → after_blanks rest ≡ rest
    → open_at (before ++ OPENING_BRACKET ∷ (between ++ rest)) ≡ Ok (inside rest)
unfolding open_at after_blanks word_at
open_again before between rest spaces more begins =
    let inner : after_blanks (between ++ rest) ≡ rest = blanks_again between rest more ∙ begins in
    rw (blanks_again before (OPENING_BRACKET ∷ (between ++ rest)) spaces, inner) refl
