-- What a string says, byte by byte.
use Rattle.std.proofs.Common.{◌≡◌, ◌≤◌, ℕ, ◌+◌, ◌-◌, ltb, length, take, Bool, true, false, cond, List, [], ◌∷◌, ◌++◌}
use Rattle.std.proofs.Common.{Result, Ok, Err, refl, sym, ap, subst, ◌∙◌, arith}
use Rattle.std.specs.Prelude.{Option, Some, None, is_some, ◌==◌}
use Rattle.std.specs.Str.{IsUtf8, is_utf8}
use Rattle.std.proofs.lemmas.Bool.{le-ltb, lt-ltb, false_from_ne_true}
use Rattle.std.proofs.lemmas.List.{append-nil}
use Rattle.std.proofs.lemmas.Str.{is_utf8-from_IsUtf8, IsUtf8-from_is_utf8}
use Rattle.linda_tuple.specs.declared.limits.TheConstants.{MAX_TEXT}
use Rattle.linda_text.specs.declared.fault.TextFault.{TextFault}
use Rattle.linda_text.specs.declared.fault.TextFault.TheVariants.{SyntaxAt, TextTooLong}
use Rattle.linda_text.specs.Letters.{is_special, escaped}
use Rattle.linda_codec.specs.Steps.{◌>>=◌, left_by}
use Rattle.linda_text.specs.Steps.{Read}
use Rattle.linda_text.specs.Reading.{wrong, chosen, escape_at, said_at, with_byte, with_escape, content_at}
use Rattle.linda_text.specs.Reading.{if_short, if_text, short_at, string_at, made}
use Rattle.linda_codec.proofs.TakeLaws.{bind_ok, guard_then, guard_right, ok_is}
use Rattle.linda_text.proofs.LoopLaws.{with_front, regroup}
use Rattle.linda_codec.proofs.SkipLaws.{is_fault, left_made}
use Rattle.linda_text.proofs.Utf8Laws.{says_text}
use Rattle.linda_text.specs.declared.marks.TheConstants as mark

-- The string ends at its closing quote, and goes on after a byte.
abbrev pub then_content : Option ℕ × List ℕ → Read (List ℕ)
then_content (None, after) = Ok ([], after)
then_content (Some b, after) = with_byte b (content_at false after)

by_escape : (o : Option ℕ) (here rest : List ℕ) → with_escape o (wrong here) (content_at false rest) ≡ (chosen o here rest >>= then_content)
by_escape None here rest = refl
by_escape (Some b) here rest = refl

behind_backslash : (bytes : List ℕ) → content_at true bytes ≡ (escape_at bytes >>= then_content)
unfolding content_at escape_at
behind_backslash [] = refl
behind_backslash (e ∷ rest) = by_escape (escaped e) (e ∷ rest) rest

by_tests : (quote backslash special : Bool) (b : ℕ) (rest : List ℕ) (escape : Read (Option ℕ)) (others : Read (List ℕ)) → others ≡ (escape >>= then_content)
    → cond quote (Ok ([], rest)) (cond backslash others (cond special (wrong (b ∷ rest)) (with_byte b (content_at false rest))))
    ≡ (cond quote (Ok (None, rest)) (cond backslash escape (cond special (wrong (b ∷ rest)) (Ok (Some b, rest)))) >>= then_content)
by_tests true backslash special b rest escape others e = refl
by_tests false true special b rest escape others e = e
by_tests false false true b rest escape others e = refl
by_tests false false false b rest escape others e = refl

-- A string is read by reading its first byte, and then the rest.
pub content_by_bytes : (bytes : List ℕ) → content_at false bytes ≡ (said_at bytes >>= then_content)
unfolding content_at said_at
content_by_bytes [] = refl
content_by_bytes (b ∷ rest) = by_tests (b == mark.QUOTE) (b == mark.BACKSLASH) (is_special b) b rest
    (escape_at rest) (content_at true rest) (behind_backslash rest)

-- ---- the loop over the bytes of a string

pub goes_on : (front bytes : List ℕ) (said : Option ℕ) (b : ℕ) (after : List ℕ) (total : Read (List ℕ)) → said ≡ Some b → said_at bytes ≡ Ok (said, after)
    → with_front front (content_at false bytes) ≡ total → with_front (front ++ b ∷ []) (content_at false after) ≡ total
goes_on front bytes said b after total is found so_far =
    let same : with_front front (content_at false bytes) ≡ with_front (front ++ b ∷ []) (content_at false after) =
    rw (content_by_bytes bytes, found, is) (regroup front b (content_at false after)) in
    sym same ∙ so_far

pub is_done : (front bytes : List ℕ) (said : Option ℕ) (after : List ℕ) (total : Read (List ℕ)) → said ≡ None
    → said_at bytes ≡ Ok (said, after) → with_front front (content_at false bytes) ≡ total → total ≡ Ok (front, after)
is_done front bytes said after total is found so_far =
    let same : with_front front (content_at false bytes) ≡ Ok (front, after) =
    rw (content_by_bytes bytes, found, is) (ap (λ (items : List ℕ). Ok (items, after)) (append-nil front)) in
    sym so_far ∙ same

pub fails : (front bytes : List ℕ) (fault : TextFault) (total : Read (List ℕ)) → said_at bytes ≡ Err fault
    → with_front front (content_at false bytes) ≡ total → total ≡ Err fault
fails front bytes fault total said so_far =
    let same : with_front front (content_at false bytes) ≡ Err fault = rw (content_by_bytes bytes, said) refl in
    sym so_far ∙ same

-- ---- passing over the bytes of a string

pub skips_on : (bytes : List ℕ) (said : Option ℕ) (after : List ℕ) (total : Result (List ℕ) TextFault) → is_some said ≡ true → said_at bytes ≡ Ok (said, after)
    → left_by (content_at false bytes) ≡ total → left_by (content_at false after) ≡ total
skips_on bytes None after total some found so_far = absurd cc
skips_on bytes (Some b) after total some found so_far =
    let same : left_by (content_at false bytes) ≡ left_by (content_at false after) =
    rw (content_by_bytes bytes, found) (left_made (content_at false after) (λ t. b ∷ t)) in
    sym same ∙ so_far

pub skips_done : (bytes : List ℕ) (said : Option ℕ) (after : List ℕ) (total : Result (List ℕ) TextFault)
    → is_some said ≡ false → said_at bytes ≡ Ok (said, after)
    → left_by (content_at false bytes) ≡ total → total ≡ Ok after
skips_done bytes None after total none found so_far =
    let same : left_by (content_at false bytes) ≡ Ok after = rw (content_by_bytes bytes, found) refl in
    sym so_far ∙ same
skips_done bytes (Some b) after total none found so_far = absurd cc

pub skip_fails : (bytes : List ℕ) (fault : TextFault) (total : Result (List ℕ) TextFault)
    → said_at bytes ≡ Err fault → left_by (content_at false bytes) ≡ total → total ≡ Err fault
skip_fails bytes fault total said so_far =
    let same : left_by (content_at false bytes) ≡ Err fault = rw (content_by_bytes bytes, said) refl in
    sym so_far ∙ same

-- ---- counting the bytes that a string says

-- So many bytes were counted, and these are still said.
abbrev pub counted : ℕ → Read (List ℕ) → Read ℕ
counted n read = made (λ said. n + length said) read

one_counted : (n b : ℕ) (read : Read (List ℕ)) → counted n (with_byte b read) ≡ counted (n + 1) read
one_counted n b (Ok x) =
    let same : n + length (b ∷ x.0) ≡ (n + 1) + length x.0 = omega arith in
    ap (λ (k : ℕ). Ok (k, x.1)) same
one_counted n b (Err fault) = refl

pub counts_on : (count : ℕ) (bytes : List ℕ) (said : Option ℕ) (after : List ℕ) (total : Read ℕ) → is_some said ≡ true → said_at bytes ≡ Ok (said, after)
    → counted count (content_at false bytes) ≡ total → counted (count + 1) (content_at false after) ≡ total
counts_on count bytes None after total some found so_far = absurd cc
counts_on count bytes (Some b) after total some found so_far =
    let same : counted count (content_at false bytes) ≡ counted (count + 1) (content_at false after) =
    rw (content_by_bytes bytes, found) (one_counted count b (content_at false after)) in
    sym same ∙ so_far

pub counts_done : (count : ℕ) (bytes : List ℕ) (said : Option ℕ) (after : List ℕ) (total : Read ℕ) → is_some said ≡ false → said_at bytes ≡ Ok (said, after)
    → counted count (content_at false bytes) ≡ total → total ≡ Ok (count, after)
counts_done count bytes None after total none found so_far =
    let nothing_more : count + 0 ≡ count = omega arith in
    let same : counted count (content_at false bytes) ≡ Ok (count, after) = rw (content_by_bytes bytes, found) (ap (λ (n : ℕ). Ok (n, after)) nothing_more) in
    sym so_far ∙ same
counts_done count bytes (Some b) after total none found so_far = absurd cc

pub count_fails : (count : ℕ) (bytes : List ℕ) (fault : TextFault) (total : Read ℕ) → said_at bytes ≡ Err fault
    → counted count (content_at false bytes) ≡ total → total ≡ Err fault
count_fails count bytes fault total said so_far =
    let same : counted count (content_at false bytes) ≡ Err fault = rw (content_by_bytes bytes, said) refl in
    sym so_far ∙ same

-- ---- a string that is not too long

-- The count, if it is not too great for a string.
abbrev if_few : ℕ × List ℕ → Read ℕ
if_few found = cond (ltb MAX_TEXT found.0) (Err TextTooLong) (Ok found)

few_by : (long : Bool) (x : List ℕ × List ℕ) → made length (cond long (Err TextTooLong) (Ok x)) ≡ cond long (Err TextTooLong) (Ok (length x.0, x.1))
few_by true x = refl
few_by false x = refl

few_of : (read : Read (List ℕ)) → made length (read >>= if_short) ≡ (made length read >>= if_few)
few_of (Ok x) = few_by (ltb MAX_TEXT (length x.0)) x
few_of (Err fault) = refl

-- A string is too long exactly if its count is too great.
short_by_count : (bytes : List ℕ) → made length (short_at bytes) ≡ (made length (content_at false bytes) >>= if_few)
unfolding short_at
short_by_count bytes = few_of (content_at false bytes)

pub is_short : (bytes rest : List ℕ) (count : ℕ) → count ≤ MAX_TEXT → made length (content_at false bytes) ≡ Ok (count, rest)
    → made length (short_at bytes) ≡ Ok (count, rest)
is_short bytes rest count few all =
    let not_long : ltb MAX_TEXT count ≡ false = le-ltb _ _ few in
    rw (short_by_count bytes, all, not_long) refl

pub short_fails : (bytes : List ℕ) (fault : TextFault) → made length (content_at false bytes) ≡ Err fault → made length (short_at bytes) ≡ Err fault
short_fails bytes fault all = rw (short_by_count bytes, all) refl

-- One byte more than there may be: the string is too long, if it has an end.
pub is_long : (bytes after left : List ℕ) (count : ℕ) → count ≡ MAX_TEXT → left_by (content_at false after) ≡ Ok left
    → counted (count + 1) (content_at false after) ≡ made length (content_at false bytes) → made length (short_at bytes) ≡ Err TextTooLong
is_long bytes after left count full ends so_far = by_end (content_at false after) ends (sym so_far)
  where
    by_end : (read : Read (List ℕ)) → left_by read ≡ Ok left → made length (content_at false bytes) ≡ counted (count + 1) read
        → made length (short_at bytes) ≡ Err TextTooLong
    by_end (Ok x) there all =
        let long : ltb MAX_TEXT ((count + 1) + length x.0) ≡ true = lt-ltb _ _ (omega (arith, full)) in
        rw (short_by_count bytes, all, long) refl
    by_end (Err fault) there all = absurd cc

pub long_fails : (bytes after : List ℕ) (count : ℕ) (fault : TextFault) → left_by (content_at false after) ≡ Err fault
    → counted (count + 1) (content_at false after) ≡ made length (content_at false bytes) → made length (short_at bytes) ≡ Err fault
long_fails bytes after count fault ends so_far =
    let one : content_at false after ≡ Err fault = is_fault (content_at false after) fault ends in
    let all : made length (content_at false bytes) ≡ Err fault = rw (sym so_far, one) refl in
    short_fails bytes fault all

-- ---- a string

-- What comes before the bytes left.
abbrev pub before : List ℕ → List ℕ → List ℕ
before bytes rest = take (length bytes - length rest) bytes

-- A string that was measured says so many bytes, and its text is UTF-8 exactly if they are.
measured : (bytes rest : List ℕ) (count : ℕ) → made length (short_at bytes) ≡ Ok (count, rest)
    → (content : List ℕ) × (short_at bytes ≡ Ok (content, rest)) × (length content ≡ count) × (is_utf8 (before bytes rest) ≡ is_utf8 content)
unfolding short_at
measured bytes rest count found =
    let s = bind_ok (short_at bytes) (λ x. Ok (length x.0, x.1)) (count, rest) found in
    let c = bind_ok (content_at false bytes) if_short s.0 s.1 in
    let g = guard_then (ltb MAX_TEXT (length c.0.0)) TextTooLong (Ok c.0) s.0 c.2 in
    let there : content_at false bytes ≡ Ok s.0 = c.1 ∙ g.1 in
    let counts : (length s.0.0, s.0.1) ≡ (count, rest) = ok_is _ _ s.2 in
    let behind : s.0.1 ≡ rest = ap (λ (y : ℕ × List ℕ). y.1) counts in
    subst (λ (r : List ℕ). (content : List ℕ) × (short_at bytes ≡ Ok (content, r)) × (length content ≡ count)
    × (is_utf8 (before bytes r) ≡ is_utf8 content)) behind
    (s.0.0, s.1, ap (λ (y : ℕ × List ℕ). y.0) counts, says_text bytes s.0.0 s.0.1 there)

pub is_string : (bytes rest : List ℕ) (count : ℕ) → made length (short_at bytes) ≡ Ok (count, rest)
    → IsUtf8 (before bytes rest) → made length (string_at bytes) ≡ Ok (count, rest)
unfolding string_at
is_string bytes rest count found text =
    let m = measured bytes rest count found in
    let passes : is_utf8 m.0 ≡ true = sym m.3 ∙ is_utf8-from_IsUtf8 (before bytes rest) text in
    rw (m.1, passes, m.2) refl

pub is_no_text : (bytes rest : List ℕ) (count : ℕ) → made length (short_at bytes) ≡ Ok (count, rest)
    → ¬ (IsUtf8 (before bytes rest)) → made length (string_at bytes) ≡ Err (SyntaxAt (length rest))
unfolding string_at
is_no_text bytes rest count found none =
    let m = measured bytes rest count found in
    let fails : is_utf8 m.0 ≡ false = sym m.3 ∙ false_from_ne_true _ (λ e. none (IsUtf8-from_is_utf8 (before bytes rest) e)) in
    rw (m.1, fails) refl

unmade_fault : (read : Read (List ℕ)) (fault : TextFault) → made length read ≡ Err fault → read ≡ Err fault
unmade_fault (Ok x) fault e = absurd cc
unmade_fault (Err f) fault e = cc

pub no_string : (bytes : List ℕ) (fault : TextFault) → made length (short_at bytes) ≡ Err fault → made length (string_at bytes) ≡ Err fault
unfolding string_at
no_string bytes fault found = rw (unmade_fault (short_at bytes) fault found) refl

-- ---- reading a string that was judged

-- What such a string says is read, and it is UTF-8.
pub is_read : (bytes content rest left : List ℕ) (count : ℕ) → made length (string_at bytes) ≡ Ok (count, left) → content_at false bytes ≡ Ok (content, rest)
    → (string_at bytes ≡ Ok (content, rest)) × IsUtf8 content
unfolding string_at short_at
is_read bytes content rest left count judged found =
    let y = bind_ok (string_at bytes) (λ x. Ok (length x.0, x.1)) (count, left) judged in
    let s = bind_ok (short_at bytes) if_text y.0 y.1 in
    let c = bind_ok (content_at false bytes) if_short s.0 s.1 in
    let g = guard_then (ltb MAX_TEXT (length c.0.0)) TextTooLong (Ok c.0) s.0 c.2 in
    let r = guard_right (is_utf8 s.0.0) (SyntaxAt (length s.0.1)) s.0 y.0 s.2 in
    let all : s.0 ≡ (content, rest) = ok_is s.0 (content, rest) (sym g.1 ∙ sym c.1 ∙ found) in
    (y.1 ∙ ap (λ (x : List ℕ × List ℕ). Ok x) (sym r.1 ∙ all), IsUtf8-from_is_utf8 content (ap (λ (x : List ℕ × List ℕ). is_utf8 x.0) (sym all) ∙ r.0))

pub read_fails : (bytes : List ℕ) (fault : TextFault) → content_at false bytes ≡ Err fault → string_at bytes ≡ Err fault
unfolding string_at short_at
read_fails bytes fault found = rw found refl
