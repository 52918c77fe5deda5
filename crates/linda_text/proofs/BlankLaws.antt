-- Blanks: what is passed over, and what comes after them.
use Rattle.std.proofs.Common.{◌≡◌, inl, inr, ℕ, ◌≤◌, Bool, true, false, cond, List, [], ◌∷◌, ◌++◌, refl, ap, arith}
use Rattle.std.specs.Prelude.{◌==◌}
use Rattle.std.specs.Char.{is_ascii_digit}
use Rattle.std.proofs.lemmas.Bool.{or_cases, eqb-true, ne_eqb, or_from, false_from_ne_true}
use Rattle.linda_text.specs.Letters.{is_blank}
use Rattle.linda_text.specs.Grammar.{AreBlanks, EndsNumeral}
use Rattle.linda_text.specs.Reading.{after_blanks}
use Rattle.linda_text.proofs.NumeralLaws.{from_digit}
use Rattle.linda_text.specs.declared.marks.TheConstants as mark

-- The bytes are blanks and what comes after them.
abbrev HasBlanks : List ℕ → List ℕ → Type 0
HasBlanks bytes rest = (blanks : List ℕ) × AreBlanks blanks × (bytes ≡ blanks ++ rest)

passed_by : (t : Bool) (b : ℕ) (rest behind : List ℕ) → is_blank b ≡ t → HasBlanks rest behind → HasBlanks (b ∷ rest) (cond t behind (b ∷ rest))
passed_by true b rest behind e has = (b ∷ has.0, (e, has.1), ap (λ (t : List ℕ). b ∷ t) has.2)
passed_by false b rest behind e has = ([], tt, refl)

pub blanks_take : (bytes : List ℕ) → HasBlanks bytes (after_blanks bytes)
unfolding after_blanks
blanks_take [] = ([], tt, refl)
blanks_take (b ∷ rest) = passed_by (is_blank b) b rest (after_blanks rest) refl (blanks_take rest)

pub blanks_again : (blanks rest : List ℕ) → AreBlanks blanks → after_blanks (blanks ++ rest) ≡ after_blanks rest
unfolding after_blanks
blanks_again [] rest all = refl
blanks_again (b ∷ blanks) rest all = rw (all.0) (blanks_again blanks rest all.1)

pub no_blank : (b : ℕ) (rest : List ℕ) → is_blank b ≡ false → after_blanks (b ∷ rest) ≡ b ∷ rest
unfolding after_blanks
no_blank b rest e = rw e refl

pub beyond_blanks : (b : ℕ) → mark.MINUS ≤ b → is_blank b ≡ false
beyond_blanks b le = or_from _ _ (ne_eqb b mark.SPACE (λ e. omega arith)) (ne_eqb b mark.TAB (λ e. omega arith))

blank_is : (b : ℕ) → is_blank b ≡ true → b ≤ mark.SPACE
blank_is b e = elim (or_cases (b == mark.SPACE) (b == mark.TAB) e)
    [ inl s ↦ omega (arith, eqb-true b mark.SPACE s) | inr t ↦ omega (arith, eqb-true b mark.TAB t) ]

pub blank_ends : (b : ℕ) → is_blank b ≡ true → is_ascii_digit b ≡ false
blank_ends b e = false_from_ne_true _ (λ d. omega (arith, (from_digit b d).0, blank_is b e))

-- After blanks, or a mark at once, no numeral goes on.
pub blanks_end : (blanks : List ℕ) (mark : ℕ) (rest : List ℕ) → AreBlanks blanks → is_ascii_digit mark ≡ false → EndsNumeral (blanks ++ mark ∷ rest)
blanks_end [] mark rest all e = e
blanks_end (b ∷ blanks) mark rest all e = blank_ends b all.0
