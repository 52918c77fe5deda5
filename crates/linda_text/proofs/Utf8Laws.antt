-- What comes between quotes is UTF-8 exactly if what it says is: an escape is of ASCII and represents a byte of ASCII.
use Rattle.std.proofs.Common.{◌≡◌, inl, inr, ℕ, zero, suc, ◌+◌, ◌-◌, ◌<◌, Bool, true, false, cond, List, [], ◌∷◌, ◌++◌}
use Rattle.std.proofs.Common.{length, take, drop, Ok, refl, sym, ap, subst, ◌∙◌, append_assoc, arith}
use Rattle.std.specs.Prelude.{Some, None, ◌==◌, ◌&&◌}
use Rattle.std.specs.Str.{IsUtf8, is_utf8}
use Rattle.std.proofs.lemmas.Bool.{eqb-true, and_parts, and_from}
use Rattle.std.proofs.lemmas.List.{length-append}
use Rattle.std.proofs.lemmas.Str.{is_utf8-from_IsUtf8, IsUtf8-from_is_utf8, IsUtf8-nil, IsUtf8-append}
use Rattle.std.proofs.lemmas.Str.{IsUtf8-from_ascii, IsUtf8-take, IsUtf8-drop, IsCharBoundary-before_ascii}
use Rattle.std.proofs.lemmas.Str.{IsCharBoundary-after_ascii}
use Rattle.std.proofs.Math.ListN.{get_or}
use Rattle.std.proofs.Math.Seq.{take-append_seam, drop-append-add, get_or-append_seam}
use Rattle.linda_text.specs.Letters.{escaped}
use Rattle.linda_text.specs.Grammar.{IsContent}
use Rattle.linda_text.specs.Reading.{content_at}
use Rattle.linda_text.proofs.AtomLaws.{content_takes}
use Rattle.linda_text.specs.declared.marks.TheConstants as mark

-- Tests that pass for each other are the same.
same_test : (p q : Bool) → (p ≡ true → q ≡ true) → (q ≡ true → p ≡ true) → p ≡ q
same_test true q forth back = sym (forth refl)
same_test false true forth back = back refl
same_test false false forth back = refl

-- ---- bytes that are joined at a byte of ASCII

before_joint : (front behind : List ℕ) (b : ℕ) → b < 128 → IsUtf8 (front ++ b ∷ behind) → IsUtf8 front
before_joint front behind b low text =
    let here : get_or (front ++ b ∷ behind) (length front) 0 ≡ b = get_or-append_seam front b behind 0 in
    let within : length front < length (front ++ b ∷ behind) = omega (arith, length-append front (b ∷ behind)) in
    let cut : IsUtf8 (take (length front) (front ++ b ∷ behind)) =
    IsUtf8-take (front ++ b ∷ behind) (length front) text
    (IsCharBoundary-before_ascii (front ++ b ∷ behind) (length front) within (omega (arith, here, low))) in
    subst IsUtf8 (take-append_seam front (b ∷ behind)) cut

behind_joint : (front behind : List ℕ) (b : ℕ) → b < 128 → IsUtf8 (front ++ b ∷ behind) → IsUtf8 behind
behind_joint front behind b low text =
    let here : get_or (front ++ b ∷ behind) (length front) 0 ≡ b = get_or-append_seam front b behind 0 in
    let within : length front < length (front ++ b ∷ behind) = omega (arith, length-append front (b ∷ behind)) in
    let cut : IsUtf8 (drop (length front + 1) (front ++ b ∷ behind)) =
    IsUtf8-drop (front ++ b ∷ behind) (length front + 1) text
    (IsCharBoundary-after_ascii (front ++ b ∷ behind) (length front) text within (omega (arith, here, low))) in
    subst IsUtf8 (drop-append-add front (b ∷ behind) 1) cut

ascii_text : (b : ℕ) → b < 128 → IsUtf8 (b ∷ [])
ascii_text b low = IsUtf8-from_ascii (b ∷ []) each
  where
    each : (i : ℕ) → get_or (b ∷ []) i 0 < 128
    each zero = low
    each (suc i) = omega arith

-- They are UTF-8 exactly if both parts are.
joined : (front behind : List ℕ) (b : ℕ) → b < 128 → is_utf8 (front ++ b ∷ behind) ≡ (is_utf8 front && is_utf8 behind)
joined front behind b low =
    same_test _ _
    (λ e. let text = IsUtf8-from_is_utf8 (front ++ b ∷ behind) e in
    and_from _ _ (is_utf8-from_IsUtf8 front (before_joint front behind b low text)) (is_utf8-from_IsUtf8 behind (behind_joint front behind b low text)))
    (λ e. let parts = and_parts (is_utf8 front) (is_utf8 behind) e in
    let rest : IsUtf8 (b ∷ behind) = IsUtf8-append (b ∷ []) behind (ascii_text b low) (IsUtf8-from_is_utf8 behind parts.1) in
    is_utf8-from_IsUtf8 (front ++ b ∷ behind) (IsUtf8-append front (b ∷ behind) (IsUtf8-from_is_utf8 front parts.0) rest))

nothing_is_text : is_utf8 [] ≡ true
nothing_is_text = is_utf8-from_IsUtf8 [] IsUtf8-nil

-- ---- escapes

-- The letter of an escape is of ASCII, and so is the byte that it represents.
low_by : (quote backslash feed tab return : Bool) (e b : ℕ) → (e == mark.QUOTE) ≡ quote
    → (e == mark.BACKSLASH) ≡ backslash → (e == mark.FEED_LETTER) ≡ feed → (e == mark.TAB_LETTER) ≡ tab
    → (e == mark.RETURN_LETTER) ≡ return
    → cond quote (Some mark.QUOTE)
    (cond backslash (Some mark.BACKSLASH) (cond feed (Some mark.LINE_FEED) (cond tab (Some mark.TAB) (cond return (Some mark.CARRIAGE_RETURN) None))))
    ≡ Some b
    → (e < 128) × (b < 128)
low_by true s f t r e b is_q is_s is_f is_t is_r found = let same : mark.QUOTE ≡ b = cc in (omega (arith, eqb-true e mark.QUOTE is_q), omega (arith, same))
low_by false true f t r e b is_q is_s is_f is_t is_r found = let same : mark.BACKSLASH ≡ b = cc in
    (omega (arith, eqb-true e mark.BACKSLASH is_s), omega (arith, same))
low_by false false true t r e b is_q is_s is_f is_t is_r found = let same : mark.LINE_FEED ≡ b = cc in
    (omega (arith, eqb-true e mark.FEED_LETTER is_f), omega (arith, same))
low_by false false false true r e b is_q is_s is_f is_t is_r found = let same : mark.TAB ≡ b = cc in
    (omega (arith, eqb-true e mark.TAB_LETTER is_t), omega (arith, same))
low_by false false false false true e b is_q is_s is_f is_t is_r found = let same : mark.CARRIAGE_RETURN ≡ b =
    cc in (omega (arith, eqb-true e mark.RETURN_LETTER is_r), omega (arith, same))
low_by false false false false false e b is_q is_s is_f is_t is_r found = absurd cc

escape_low : (e b : ℕ) → escaped e ≡ Some b → (e < 128) × (b < 128)
escape_low e b found = low_by (e == mark.QUOTE) (e == mark.BACKSLASH) (e == mark.FEED_LETTER)
    (e == mark.TAB_LETTER) (e == mark.RETURN_LETTER) e b refl refl refl refl refl found

-- ---- what is said, and the bytes that say it

-- With the same front before both, what is said is UTF-8 exactly if the bytes that say it are.
same_text : (said content : List ℕ) → IsContent said content → (front : List ℕ) → is_utf8 (front ++ said) ≡ is_utf8 (front ++ content)
same_text [] content none front = rw none refl
same_text (b ∷ said) content (form, rest, inl plain, is, parts) front =
    let one : front ++ b ∷ said ≡ (front ++ b ∷ []) ++ said = sym (append_assoc front (b ∷ []) said) in
    let other : front ++ b ∷ rest ≡ (front ++ b ∷ []) ++ rest = sym (append_assoc front (b ∷ []) rest) in
    rw (parts, plain.1, one, other) (same_text said rest is (front ++ b ∷ []))
same_text (b ∷ said) content (form, rest, inr escape, is, parts) front =
    let low = escape_low escape.0 b escape.1 in
    let letter : is_utf8 (escape.0 ∷ rest) ≡ is_utf8 rest = joined [] rest escape.0 low.0 ∙ rw nothing_is_text refl in
    let others : is_utf8 said ≡ is_utf8 rest = same_text said rest is [] in
    rw (parts, escape.2, joined front said b low.1, joined front (escape.0 ∷ rest) mark.BACKSLASH (omega arith), letter, others) refl

-- What a string says is UTF-8 exactly if all that comes before the bytes left is, with its closing quote.
pub says_text : (bytes content rest : List ℕ) → content_at false bytes ≡ Ok (content, rest)
    → is_utf8 (take (length bytes - length rest) bytes) ≡ is_utf8 content
says_text bytes content rest found =
    let s = content_takes false bytes (content, rest) found in
    let quoted : bytes ≡ (s.0 ++ mark.QUOTE ∷ []) ++ rest = s.2 ∙ sym (append_assoc s.0 (mark.QUOTE ∷ []) rest) in
    let count : length bytes - length rest ≡ length (s.0 ++ mark.QUOTE ∷ []) = omega (arith, ap length quoted, length-append (s.0 ++ mark.QUOTE ∷ []) rest) in
    let all : take (length bytes - length rest) bytes ≡ s.0 ++ mark.QUOTE ∷ [] =
    ap (λ (n : ℕ). take n bytes) count ∙ ap (take (length (s.0 ++ mark.QUOTE ∷ []))) quoted ∙ take-append_seam (s.0 ++ mark.QUOTE ∷ []) rest in
    let closing : is_utf8 (s.0 ++ mark.QUOTE ∷ []) ≡ is_utf8 s.0 = joined s.0 [] mark.QUOTE (omega arith) ∙ rw nothing_is_text (and_true (is_utf8 s.0)) in
    ap is_utf8 all ∙ closing ∙ sym (same_text content s.0 s.1 [])
  where
    and_true : (p : Bool) → (p && true) ≡ p
    and_true true = refl
    and_true false = refl
