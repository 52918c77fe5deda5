-- Numbers and integers: which one a text writes, and which text one is written as.
use Rattle.std.proofs.Common.{◌≡◌, ℕ, ℤ, zero, suc, ◌+◌, ◌^◌, ◌<◌, ◌≤◌, Bool, true, false, cond, ltb, List, [], ◌∷◌}
use Rattle.std.proofs.Common.{◌++◌, length, get_or, take, drop, Ok, Err, refl, sym, ap, subst, ◌∙◌, arith, tests}
use Rattle.std.specs.Prelude.{pos, negsuc, neg_ℤ, FitsSigned, ◌&&◌, ◌==◌, not}
use Rattle.std.specs.Char.{is_ascii_digit, digit_value}
use Rattle.std.specs.Fmt.{decimal, signed_decimal}
use Rattle.std.specs.Int.{w64, IsInRange}
use Rattle.std.specs.Int.Signed.{mag}
use Rattle.std.specs.Str.{IsUtf8}
use Rattle.std.specs.Str.Parse.{AllDigits, IsNumeral, digits_value, without_leading_plus}
use Rattle.std.proofs.lemmas.Str.Parse.{IsNumeralModel, numerals_by_value, tells_digits, digit_from_value}
use Rattle.std.proofs.lemmas.Str.{digit_value_digit, IsUtf8-from_ascii}
use Rattle.std.proofs.lemmas.Fmt.{IsAscii-from_digits, decimal-digits_value, decimal_is_IsNumeral, decimal_digit, first_decimal}
use Rattle.std.proofs.lemmas.Bool.{le-leb, leb-true, and_parts, and_from, ne_eqb, eqb-true, lt-ltb, ltb-true}
use Rattle.std.proofs.lemmas.List.{take_at, drop_at, take-append-drop}
use Rattle.linda_text.specs.declared.fault.TextFault.TheVariants.{SyntaxAt, NumberRange}
use Rattle.linda_text.specs.Grammar.{EndsNumeral}
use Rattle.linda_text.specs.Reading.{digit_count, positive_len, number_of, positive_at, natural_at, integer_of, integer_at}
use Rattle.linda_codec.specs.Steps.{◌>>=◌}
use Rattle.linda_codec.proofs.TakeLaws.{bind_ok, guard_right, ok_is}
use Rattle.linda_text.specs.declared.marks.TheConstants as mark

-- `parse` takes it before digits, and no text has it there.
abbrev plus_sign : ℕ
plus_sign = 43

pub is_digit : (b : ℕ) → IsInRange mark.ZERO mark.NINE b → is_ascii_digit b ≡ true
is_digit b within = and_from _ _ (le-leb mark.ZERO b within.0) (le-leb b mark.NINE within.1)

pub from_digit : (b : ℕ) → is_ascii_digit b ≡ true → IsInRange mark.ZERO mark.NINE b
from_digit b e = let p = and_parts _ _ e in (leb-true mark.ZERO b p.0, leb-true b mark.NINE p.1)

digit_is_value : (b : ℕ) → is_ascii_digit b ≡ true → digit_value b < 10
digit_is_value b e =
    let r = from_digit b e in
    omega (arith, digit_value_digit b r, r.0, r.1)

-- ---- what was counted

taken_by : (t : Bool) (b n : ℕ) (rest : List ℕ) → is_ascii_digit b ≡ t → AllDigits 10 (take n rest) → AllDigits 10 (take (cond t (suc n) 0) (b ∷ rest))
taken_by true b n rest e all = (digit_is_value b e, all)
taken_by false b n rest e all = tt

taken : (bytes : List ℕ) → AllDigits 10 (take (digit_count bytes) bytes)
unfolding digit_count
taken [] = tt
taken (b ∷ rest) = taken_by (is_ascii_digit b) b (digit_count rest) rest refl (taken rest)

-- Digits of which the first is not 0.
pub record IsPositive (ds : List ℕ) : Type 0 where
  pub some : 0 < length ds
  pub digits : AllDigits 10 ds
  pub first : IsInRange (mark.ZERO + 1) mark.NINE (get_or ds 0 0)

first_digit : (b : ℕ) → IsInRange mark.ZERO mark.NINE b → (b == mark.ZERO) ≡ false → IsInRange (mark.ZERO + 1) mark.NINE b
first_digit b r e = grind (arith, tests)

positive_by : (t u : Bool) (b n : ℕ) (rest : List ℕ) → is_ascii_digit b ≡ t → (b == mark.ZERO) ≡ u
    → cond (t && not u) (Ok (suc (digit_count rest))) (Err (SyntaxAt (suc (length rest)))) ≡ Ok n → IsPositive (take n (b ∷ rest))
positive_by true true b n rest d z e = absurd cc
positive_by true false b n rest d z e =
    let same : suc (digit_count rest) ≡ n = ok_is _ _ e in
    subst (λ (k : ℕ). IsPositive (take k (b ∷ rest))) same
    (record { some = omega arith; digits = (digit_is_value b d, taken rest); first = first_digit b (from_digit b d) z })
positive_by false u b n rest d z e = absurd cc

positive_taken : (bytes : List ℕ) (n : ℕ) → positive_len bytes ≡ Ok n → IsPositive (take n bytes)
unfolding positive_len
positive_taken [] n e = absurd cc
positive_taken (b ∷ rest) n e = positive_by (is_ascii_digit b) (b == mark.ZERO) b n rest refl refl e

-- ---- what digits are for `parse`

without_plus : (ds : List ℕ) → IsPositive ds → without_leading_plus ds ≡ ds
without_plus [] p = refl
without_plus (d ∷ ds) p =
    let plus : (d == plus_sign) ≡ false = ne_eqb d plus_sign (λ e. omega (arith, p.first.0)) in
    rw plus refl

pub is_numeral : (bytes : List ℕ) (n : ℕ) → positive_len bytes ≡ Ok n → IsNumeral 10 (without_leading_plus (take n bytes))
is_numeral bytes n e =
    let p = positive_taken bytes n e in
    subst (IsNumeral 10) (sym (without_plus (take n bytes) p)) (p.some, p.digits)

pub is_text : (bytes : List ℕ) (n : ℕ) → positive_len bytes ≡ Ok n → IsUtf8 (take n bytes)
is_text bytes n e =
    let all = (positive_taken bytes n e).digits in
    IsUtf8-from_ascii (take n bytes) (IsAscii-from_digits (take n bytes) all)

-- ---- digits are what `decimal` writes of their number

own : IsNumeralModel (AllDigits 10) (digits_value 10)
own = numerals_by_value (AllDigits 10) tells_digits

written : (ds : List ℕ) → IsPositive ds → digits_value 10 ds < 2 ^ 64 → decimal (digits_value 10 ds) ≡ ds
written ds p lt = decimal-digits_value own ds p.digits p.some (λ e. absurd (omega (arith, p.first.0))) lt

zero_text : decimal 0 ≡ mark.ZERO ∷ []
zero_text = decimal_digit 0 (omega arith)

-- Digits that do not begin with 0 are not those of 0.
above_zero : (n : ℕ) → IsPositive (decimal n) → 0 < n
above_zero zero p =
    let first : get_or (decimal 0) 0 0 ≡ mark.ZERO = ap (λ (t : List ℕ). get_or t 0 0) zero_text in
    absurd (omega (arith, p.first.0, first))
above_zero (suc n) p = omega arith

value_decimal : (n : ℕ) → n < 2 ^ 64 → digits_value 10 (decimal n) ≡ n
value_decimal n lt = (decimal_is_IsNumeral n lt).1

positive_decimal : (n : ℕ) → n < 2 ^ 64 → 0 < n → IsPositive (decimal n)
positive_decimal n lt some =
    let is = (decimal_is_IsNumeral n lt).0 in
    record { some = is.0; digits = is.1; first = (omega (arith, first_decimal n some lt), last_first (decimal n) is.0 is.1) }
  where
    last_first : (ds : List ℕ) → 0 < length ds → AllDigits 10 ds → get_or ds 0 0 ≤ mark.NINE
    last_first [] none all = absurd (omega (arith, none))
    last_first (d ∷ ds) some all = (digit_from_value d all.0).1

counted : (ds rest : List ℕ) → AllDigits 10 ds → EndsNumeral rest → digit_count (ds ++ rest) ≡ length ds
unfolding digit_count
counted [] [] all end = refl
counted [] (b ∷ rest) all end = rw end refl
counted (d ∷ ds) rest all end =
    let digit : is_ascii_digit d ≡ true = is_digit d (digit_from_value d all.0) in
    let others : digit_count (ds ++ rest) ≡ length ds = counted ds rest all.1 end in
    rw (digit, others) refl

len_again : (ds rest : List ℕ) → IsPositive ds → EndsNumeral rest → positive_len (ds ++ rest) ≡ Ok (length ds)
unfolding positive_len
len_again [] rest p end = absurd (omega (arith, p.some))
len_again (d ∷ ds) rest p end =
    let digit : is_ascii_digit d ≡ true = is_digit d (omega (arith, p.first.0), p.first.1) in
    let not_zero : (d == mark.ZERO) ≡ false = ne_eqb d mark.ZERO (λ e. omega (arith, p.first.0)) in
    let others : digit_count (ds ++ rest) ≡ length ds = counted ds rest p.digits.1 end in
    rw (digit, not_zero, others) refl

-- ---- numbers whose digits do not begin with 0

positive_takes : (bytes : List ℕ) (x : ℕ × List ℕ) → positive_at bytes ≡ Ok x → (bytes ≡ decimal x.0 ++ x.1) × (x.0 < 2 ^ 64) × (0 < x.0)
unfolding positive_at number_of
positive_takes bytes x e =
    let n = bind_ok (positive_len bytes) (λ len. number_of (take len bytes) >>= λ number. Ok (number, drop len bytes)) x e in
    let v = bind_ok (number_of (take n.0 bytes)) (λ number. Ok (number, drop n.0 bytes)) x n.2 in
    let p = positive_taken bytes n.0 n.1 in
    let plain : without_leading_plus (take n.0 bytes) ≡ take n.0 bytes = without_plus (take n.0 bytes) p in
    let g = guard_right (ltb (digits_value 10 (without_leading_plus (take n.0 bytes))) (2 ^ 64)) NumberRange
    (digits_value 10 (without_leading_plus (take n.0 bytes))) v.0 v.1 in
    let value : digits_value 10 (take n.0 bytes) ≡ v.0 = sym (ap (digits_value 10) plain) ∙ g.1 in
    let lt : v.0 < 2 ^ 64 = subst (λ (z : ℕ). z < 2 ^ 64) g.1 (ltb-true _ _ g.0) in
    let text : decimal v.0 ≡ take n.0 bytes = sym (ap decimal value) ∙ written (take n.0 bytes) p (subst (λ (z : ℕ). z < 2 ^ 64) (sym value) lt) in
    let whole : bytes ≡ decimal v.0 ++ drop n.0 bytes = sym (take-append-drop n.0 bytes) ∙ ap (λ (t : List ℕ). t ++ drop n.0 bytes) (sym text) in
    let found : ℕ × List ℕ = (v.0, drop n.0 bytes) in
    subst (λ (y : ℕ × List ℕ). (bytes ≡ decimal y.0 ++ y.1) × (y.0 < 2 ^ 64) × (0 < y.0)) {x = found} (ok_is found x v.2)
    (whole, lt, above_zero v.0 (subst IsPositive (sym text) p))

positive_again : (ds rest : List ℕ) (n : ℕ) → IsPositive ds → EndsNumeral rest → digits_value 10 ds ≡ n → n < 2 ^ 64 → positive_at (ds ++ rest) ≡ Ok (n, rest)
unfolding positive_at number_of
positive_again ds rest n p end value lt =
    let small : ltb n (2 ^ 64) ≡ true = lt-ltb _ _ lt in
    rw (len_again ds rest p end, take_at ds rest (length ds) refl, drop_at ds rest (length ds) refl, without_plus ds p, value, small) refl

-- ---- numbers without a sign

natural_by : (t : Bool) (b : ℕ) (rest : List ℕ) (x : ℕ × List ℕ) → (b == mark.ZERO) ≡ t → cond t (Ok (0, rest)) (positive_at (b ∷ rest)) ≡ Ok x
    → (b ∷ rest ≡ decimal x.0 ++ x.1) × (x.0 < 2 ^ 64)
natural_by true b rest x is_zero e =
    let found : ℕ × List ℕ = (0, rest) in
    let text : b ∷ rest ≡ decimal 0 ++ rest = ap (λ (d : ℕ). d ∷ rest) (eqb-true b mark.ZERO is_zero) ∙ ap (λ (t : List ℕ). t ++ rest) (sym zero_text) in
    subst (λ (y : ℕ × List ℕ). (b ∷ rest ≡ decimal y.0 ++ y.1) × (y.0 < 2 ^ 64)) {x = found} (ok_is found x e) (text, omega arith)
natural_by false b rest x is_zero e =
    let p = positive_takes (b ∷ rest) x e in
    (p.0, p.1)

pub natural_takes : (bytes : List ℕ) (x : ℕ × List ℕ) → natural_at bytes ≡ Ok x → (bytes ≡ decimal x.0 ++ x.1) × (x.0 < 2 ^ 64)
unfolding natural_at
natural_takes [] x e = absurd cc
natural_takes (b ∷ rest) x e = natural_by (b == mark.ZERO) b rest x refl e

pub natural_again : (n : ℕ) (rest : List ℕ) → n < 2 ^ 64 → EndsNumeral rest → natural_at (decimal n ++ rest) ≡ Ok (n, rest)
unfolding natural_at
natural_again zero rest lt end = rw zero_text refl
natural_again (suc n) rest lt end = by_digits (decimal (suc n)) (positive_decimal (suc n) lt (omega arith)) (value_decimal (suc n) lt)
  where
    by_digits : (ds : List ℕ) → IsPositive ds → digits_value 10 ds ≡ suc n → natural_at (ds ++ rest) ≡ Ok (suc n, rest)
    by_digits [] p value = absurd (omega (arith, p.some))
    by_digits (d ∷ ds) p value =
        let not_zero : (d == mark.ZERO) ≡ false = ne_eqb d mark.ZERO (λ e. omega (arith, p.first.0)) in
        rw not_zero (positive_again (d ∷ ds) rest (suc n) p end value lt)

-- The first byte of such a number's text is a digit.
pub natural_begins : (n : ℕ) → n < 2 ^ 64 → (d : ℕ) × (ds : List ℕ) × (decimal n ≡ d ∷ ds) × (mark.ZERO ≤ d) × (d ≤ mark.NINE)
natural_begins zero lt = (mark.ZERO, [], zero_text, omega arith, omega arith)
natural_begins (suc n) lt = first_of (decimal (suc n)) (positive_decimal (suc n) lt (omega arith))
  where
    first_of : (xs : List ℕ) → IsPositive xs → (d : ℕ) × (ds : List ℕ) × (xs ≡ d ∷ ds) × (mark.ZERO ≤ d) × (d ≤ mark.NINE)
    first_of [] p = absurd (omega (arith, p.some))
    first_of (d ∷ ds) p = (d, ds, refl, omega (arith, p.first.0), p.first.1)

-- ---- integers

-- The bytes begin with the text of the integer, which is within 64 bits.
abbrev BeginsInteger : List ℕ → ℤ × List ℕ → Type 0
BeginsInteger bytes x = (bytes ≡ signed_decimal x.0 ++ x.1) × FitsSigned w64 x.0

in_range : (z : ℤ) (bytes rest : List ℕ) (x : ℤ × List ℕ) → bytes ≡ signed_decimal z ++ rest
    → (integer_of z >>= λ integer. Ok (integer, rest)) ≡ Ok x → BeginsInteger bytes x
unfolding integer_of
in_range z bytes rest x text e =
    let v = bind_ok (integer_of z) (λ integer. Ok (integer, rest)) x e in
    let g = guard_right (ltb (mag z) (2 ^ 63)) NumberRange z v.0 v.1 in
    let lt : mag z < 2 ^ 63 = ltb-true _ _ g.0 in
    let found : ℤ × List ℕ = (v.0, rest) in
    subst (BeginsInteger bytes) {x = found} (ok_is found x v.2)
    (subst (λ (y : ℤ). BeginsInteger bytes (y, rest)) g.1 (text, record { sfits = lt }))

below_zero : (n : ℕ) → 0 < n → signed_decimal (neg_ℤ (pos n)) ≡ mark.MINUS ∷ decimal n
below_zero zero some = absurd (omega (arith, some))
below_zero (suc n) some = refl

integer_by : (t : Bool) (b : ℕ) (rest : List ℕ) (x : ℤ × List ℕ) → (b == mark.MINUS) ≡ t
    → cond t (positive_at rest >>= λ number. integer_of (neg_ℤ (pos number.0)) >>= λ integer. Ok (integer, number.1))
    (natural_at (b ∷ rest) >>= λ number. integer_of (pos number.0) >>= λ integer. Ok (integer, number.1)) ≡ Ok x
    → BeginsInteger (b ∷ rest) x
integer_by true b rest x is_minus e =
    let n = bind_ok (positive_at rest) (λ number. integer_of (neg_ℤ (pos number.0)) >>= λ integer. Ok (integer, number.1)) x e in
    let p = positive_takes rest n.0 n.1 in
    let text : b ∷ rest ≡ signed_decimal (neg_ℤ (pos n.0.0)) ++ n.0.1 =
    ap (λ (c : ℕ). c ∷ rest) (eqb-true b mark.MINUS is_minus) ∙ ap (λ (t : List ℕ). mark.MINUS ∷ t) p.0
    ∙ ap (λ (t : List ℕ). t ++ n.0.1) (sym (below_zero n.0.0 p.2)) in
    in_range (neg_ℤ (pos n.0.0)) (b ∷ rest) n.0.1 x text n.2
integer_by false b rest x is_minus e =
    let n = bind_ok (natural_at (b ∷ rest)) (λ number. integer_of (pos number.0) >>= λ integer. Ok (integer, number.1)) x e in
    in_range (pos n.0.0) (b ∷ rest) n.0.1 x (natural_takes (b ∷ rest) n.0 n.1).0 n.2

pub integer_takes : (bytes : List ℕ) (x : ℤ × List ℕ) → integer_at bytes ≡ Ok x → BeginsInteger bytes x
unfolding integer_at
integer_takes [] x e = absurd cc
integer_takes (b ∷ rest) x e = integer_by (b == mark.MINUS) b rest x refl e

pub integer_again : (z : ℤ) (rest : List ℕ) → FitsSigned w64 z → EndsNumeral rest → integer_at (signed_decimal z ++ rest) ≡ Ok (z, rest)
unfolding integer_at integer_of
integer_again (pos n) rest fits end =
    let lt : n < 2 ^ 64 = omega (arith, fits.sfits) in
    let b = natural_begins n lt in
    by_digits b.0 b.1 b.2 b.3 (natural_again n rest lt end)
  where
    by_digits : (d : ℕ) (ds : List ℕ) → decimal n ≡ d ∷ ds → mark.ZERO ≤ d → natural_at (decimal n ++ rest) ≡ Ok (n, rest)
        → integer_at (decimal n ++ rest) ≡ Ok (pos n, rest)
    by_digits d ds text from again =
        let no_minus : (d == mark.MINUS) ≡ false = ne_eqb d mark.MINUS (λ e. omega (arith, from)) in
        let read : natural_at (d ∷ (ds ++ rest)) ≡ Ok (n, rest) = ap (λ (t : List ℕ). natural_at (t ++ rest)) (sym text) ∙ again in
        let small : ltb n (2 ^ 63) ≡ true = lt-ltb _ _ fits.sfits in
        rw (text, no_minus, read, small) refl
integer_again (negsuc n) rest fits end =
    let lt : suc n < 2 ^ 64 = omega (arith, fits.sfits) in
    let digits = positive_decimal (suc n) lt (omega arith) in
    let read : positive_at (decimal (suc n) ++ rest) ≡ Ok (suc n, rest) =
    positive_again (decimal (suc n)) rest (suc n) digits end (value_decimal (suc n) lt) lt in
    let small : ltb n (2 ^ 63) ≡ true = lt-ltb _ _ fits.sfits in
    rw (read, small) refl

-- The first byte of an integer's text is a minus or a digit.
pub number_begins : (z : ℤ) → mag z < 2 ^ 63 → (d : ℕ) × (ds : List ℕ) × (signed_decimal z ≡ d ∷ ds) × (mark.MINUS ≤ d) × (d ≤ mark.NINE)
number_begins (pos n) lt =
    let b = natural_begins n (omega (arith, lt)) in
    (b.0, b.1, b.2, omega (arith, b.3), b.4)
number_begins (negsuc n) lt = (mark.MINUS, decimal (suc n), refl, omega arith, omega arith)
