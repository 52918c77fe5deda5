-- The laws of formats: those of the basic ones, and that a format made of lawful formats is lawful.
use Rattle.std.proofs.Common.{◌≡◌, ℕ, ℤ, zero, suc, ◌^◌, ◌<◌, ◌≤◌, Bool, true, false, cond, ltb, eqb, List, [], ◌∷◌}
use Rattle.std.proofs.Common.{◌++◌, length, take, drop, Ok, Err, refl, sym, ap, subst, ◌∙◌, append_assoc, arith}
use Rattle.std.proofs.Common.{length-drop}
use Rattle.std.specs.Prelude.{if◌then◌else◌}
use Rattle.std.specs.List.{flat_map, AllByRecursion}
use Rattle.std.specs.Int.{Width, w16, w32, w64, byte_len, from_be_bytes, to_be_bytes, cast_signed, cast_unsigned}
use Rattle.std.specs.Str.{is_utf8}
use mathlib.Core.Bool.{true≢false}
use borrow.Author.Gap.{read_sfits}
use Rattle.std.proofs.Math.Facts.{Fits-of_z}
use Rattle.std.proofs.lemmas.Bool.{ltb-false, le-ltb, eqb-true}
use Rattle.std.proofs.lemmas.Int.{to_z-of_z, of_z-to_z}
use Rattle.std.proofs.lemmas.List.{take_at, drop_at, length-append, length-take}
use Rattle.std.proofs.lemmas.Str.{is_utf8-from_IsUtf8}
use Rattle.linda_codec.specs.declared.fault.ReadFault.TheVariants.{Short, BadText, TooMany, LongText}
use Rattle.linda_codec.specs.Steps.{Read, Reader, ◌>>=◌, many_at}
use Rattle.linda_codec.specs.Formats.{Format, byte_at, byte, number_at, length_at, short_length, short_number, number}
use Rattle.linda_codec.specs.Formats.{integer, truth_at, truth, nothing, both, made_at, made, known_as, sized_text}
use Rattle.linda_codec.specs.Formats.{count_at, counted, no_kind, body_at, choice_at}
use Rattle.linda_codec.specs.Lawful.{IsBytes, Takes, IsBounded, IsSpelled, IsFormat}
use Rattle.linda_codec.proofs.TakeLaws.{IsBytes-rest, bind_ok, guard_ok, guard_then, guard_right, ok_is, Takes-then}
use Rattle.linda_codec.proofs.TakeLaws.{Takes-none, Takes-byte, Takes-behind, Takes-front, wide16, wide32, wide64}
use Rattle.linda_codec.proofs.TakeLaws.{number_takes, number_again, byte_takes}
use Rattle.linda_codec.proofs.ManyLaws.{many_takes, many_again}
use Rattle.linda_codec.proofs.BoundLaws.{more_bounded, bounded_then, guarded, many_bounded}

-- ---- numbers and truth values

pub byte_is : IsFormat byte
byte_is = record { takes = byte_takes; again = λ n rest fits. refl; bounded = within }
  where
    within : (bytes : List ℕ) → IsBounded (length bytes) (byte_at bytes)
    within [] = tt
    within (b ∷ bytes) = omega arith

number_bounded : (w : Width) (bytes : List ℕ) → IsBounded (length bytes) (number_at w bytes)
number_bounded w bytes =
    guarded (length bytes) (ltb (length bytes) (byte_len w)) Short
    (Ok (from_be_bytes w (take (byte_len w) bytes), drop (byte_len w) bytes)) tt (omega (arith, length-drop (byte_len w) bytes))

pub short_number_is : IsFormat short_number
short_number_is = record { takes = number_takes w32 (2 ^ 32) wide32; again = number_again w32 (2 ^ 32) wide32; bounded = number_bounded w32 }

pub short_length_is : (limit : ℕ) → IsFormat (short_length limit)
short_length_is limit = record {
  takes = λ bytes x fits e.
      let a = bind_ok (number_at w16 bytes) (λ n. if ltb limit n.0 then Err (LongText (length bytes)) else Ok n) x e in
      let t = number_takes w16 (2 ^ 16) wide16 bytes a.0 fits a.1 in
      let g = guard_ok (ltb limit a.0.0) (LongText (length bytes)) a.0 x a.2 in
      let short : a.0.0 ≤ limit = ltb-false _ _ g.0 in
      subst (λ (y : ℕ × List ℕ). IsSpelled (short_length limit).spell (short_length limit).Fits bytes y) g.1 (t.0, (short, t.1));
  again = λ n rest fits.
      let not_long : ltb limit n ≡ false = le-ltb _ _ fits.0 in
      rw (number_again w16 (2 ^ 16) wide16 n rest fits.1, not_long) refl;
  bounded = λ bytes. length_bounded (ltb (length bytes) 2) bytes refl;
}
  where
    length_bounded : (b : Bool) (bytes : List ℕ) → ltb (length bytes) 2 ≡ b → IsBounded (length bytes) (length_at limit bytes)
    length_bounded true bytes e = rw e tt
    length_bounded false bytes e =
        let long : 2 ≤ length bytes = ltb-false _ _ e in
        rw e (guarded (length bytes) (ltb limit (from_be_bytes w16 (take 2 bytes))) (LongText (length bytes))
        (Ok (from_be_bytes w16 (take 2 bytes), drop 2 bytes)) (omega (arith, long), omega arith) (omega (arith, length-drop 2 bytes)))

pub number_is : IsFormat number
number_is = record { takes = number_takes w64 (2 ^ 64) wide64; again = number_again w64 (2 ^ 64) wide64; bounded = number_bounded w64 }

pub integer_is : IsFormat integer
integer_is = record {
  takes = λ bytes x fits e.
      let a = bind_ok (number_at w64 bytes) (λ n. Ok (cast_signed w64 n.0, n.1)) x e in
      let t = number_takes w64 (2 ^ 64) wide64 bytes a.0 fits a.1 in
      let same : a.0.0 ≡ cast_unsigned w64 (cast_signed w64 a.0.0) = sym (of_z-to_z w64 a.0.0 t.1) in
      let taken : Takes bytes (integer.spell (cast_signed w64 a.0.0)) a.0.1 = subst (λ (k : ℕ). Takes bytes (to_be_bytes w64 k) a.0.1) same t.0 in
      let it : ℤ × List ℕ = (cast_signed w64 a.0.0, a.0.1) in
      subst (λ (y : ℤ × List ℕ). IsSpelled integer.spell integer.Fits bytes y) (ok_is it x a.2) (taken, read_sfits w64 a.0.0);
  again = λ n rest fits.
      let below : cast_unsigned w64 n < 2 ^ 64 = (Fits-of_z fits).fits in
      rw (number_again w64 (2 ^ 64) wide64 (cast_unsigned w64 n) rest below, to_z-of_z w64 n fits) refl;
  bounded = λ bytes. bounded_then (length bytes) (number_at w64 bytes) (λ n. Ok (cast_signed w64 n.0, n.1)) (number_bounded w64 bytes) (λ n. omega arith);
}

truth_takes : (bytes : List ℕ) (x : Bool × List ℕ) → IsBytes bytes → truth_at bytes ≡ Ok x → IsSpelled truth.spell truth.Fits bytes x
unfolding truth_at
truth_takes [] x fits e = absurd cc
truth_takes (zero ∷ bytes) x fits e = rw (← ok_is (false, bytes) x e) (Takes-byte 0 bytes [] bytes (Takes-none bytes (IsBytes-rest 0 bytes fits)), tt)
truth_takes (suc zero ∷ bytes) x fits e = rw (← ok_is (true, bytes) x e) (Takes-byte 1 bytes [] bytes (Takes-none bytes (IsBytes-rest 1 bytes fits)), tt)
truth_takes (suc (suc b) ∷ bytes) x fits e = absurd cc

truth_again : (b : Bool) (rest : List ℕ) → truth_at (truth.spell b ++ rest) ≡ Ok (b, rest)
unfolding truth_at
truth_again true rest = refl
truth_again false rest = refl

truth_bounded : (bytes : List ℕ) → IsBounded (length bytes) (truth_at bytes)
unfolding truth_at
truth_bounded [] = tt
truth_bounded (zero ∷ bytes) = omega arith
truth_bounded (suc zero ∷ bytes) = omega arith
truth_bounded (suc (suc b) ∷ bytes) = (omega arith, omega arith)

pub truth_is : IsFormat truth
truth_is = record { takes = truth_takes; again = λ b rest fits. truth_again b rest; bounded = truth_bounded }

-- ---- formats of formats

pub nothing_is : IsFormat nothing
nothing_is = record {
  takes = λ bytes x fits e. subst (λ (y : Unit {0} × List ℕ). IsSpelled nothing.spell nothing.Fits bytes y) (ok_is (tt, bytes) x e) (Takes-none bytes fits, tt);
  again = λ value rest fits. refl;
  bounded = λ bytes. omega arith;
}

pub both_is : {A B : Type 0} {f : Format A} {g : Format B} → IsFormat f → IsFormat g → IsFormat (both f g)
both_is {A = A} {B = B} {f = f} {g = g} one two = record {
  takes = λ bytes x fits e.
      let a = bind_ok (f.read bytes) (λ a. g.read a.1 >>= λ b. Ok ((a.0, b.0), b.1)) x e in
      let b = bind_ok (g.read a.0.1) (λ b. Ok ((a.0.0, b.0), b.1)) x a.2 in
      let s = one.takes bytes a.0 fits a.1 in
      let t = two.takes a.0.1 b.0 s.0.rest_fits b.1 in
      let it : (A × B) × List ℕ = ((a.0.0, b.0.0), b.0.1) in
      subst (λ (y : (A × B) × List ℕ). IsSpelled (both f g).spell (both f g).Fits bytes y) {x = it} (ok_is it x b.2)
      (Takes-then bytes (f.spell a.0.0) a.0.1 (g.spell b.0.0) b.0.1 s.0 t.0, (s.1, t.1));
  again = λ value rest fits.
      rw (append_assoc (f.spell value.0) (g.spell value.1) rest, one.again value.0 (g.spell value.1 ++ rest) fits.0, two.again value.1 rest fits.1) refl;
  bounded = λ bytes.
      bounded_then (length bytes) (f.read bytes) (λ a. g.read a.1 >>= λ b. Ok ((a.0, b.0), b.1)) (one.bounded bytes)
      (λ a. bounded_then (length a.1) (g.read a.1) (λ b. Ok ((a.0, b.0), b.1)) (two.bounded a.1) (λ b. omega arith));
}

-- What is read is a value whose spelling is these bytes and the bytes that were read; and what is left was there.
pub record IsReader {A : Type 0} (spell : A → List ℕ) (Fits : A → Type 0) (front : List ℕ) (read : Reader A) : Type 0 where
  pub takes : (bytes : List ℕ) (x : A × List ℕ) → IsBytes bytes → read bytes ≡ Ok x → IsSpelled spell Fits (front ++ bytes) x
  pub bounded : (bytes : List ℕ) → IsBounded (length bytes) (read bytes)

pub body_is : {A M : Type 0} {f : Format A} → IsFormat f → (spell : M → List ℕ) (Fits : M → Type 0) (front : List ℕ) (make : A → M)
    → ((a : A) → spell (make a) ≡ front ++ f.spell a) → ((a : A) → f.Fits a → Fits (make a)) → IsReader spell Fits front (made_at make f)
body_is {M = M} {f = f} is spell Fits front make spelled fit = record {
  takes = λ bytes x fits e.
      let a = bind_ok (f.read bytes) (λ a. Ok (make a.0, a.1)) x e in
      let t = is.takes bytes a.0 fits a.1 in
      let whole : Takes (front ++ bytes) (spell (make a.0.0)) a.0.1 = rw (spelled a.0.0) (Takes-behind front bytes (f.spell a.0.0) a.0.1 t.0) in
      let it : M × List ℕ = (make a.0.0, a.0.1) in
      subst (λ (y : M × List ℕ). IsSpelled spell Fits (front ++ bytes) y) {x = it} (ok_is it x a.2) (whole, fit a.0.0 t.1);
  bounded = λ bytes. bounded_then (length bytes) (f.read bytes) (λ a. Ok (make a.0, a.1)) (is.bounded bytes) (λ a. omega arith);
}

-- What a format spells is read again as what it makes.
pub made_again : {A M : Type 0} {f : Format A} → IsFormat f → (make : A → M) (value : A) (rest : List ℕ)
    → f.Fits value → made_at make f (f.spell value ++ rest) ≡ Ok (make value, rest)
made_again is make value rest fits = rw (is.again value rest fits) refl

pub made_is : {A M : Type 0} {f : Format A} → IsFormat f → (make : A → M) (parts : M → A)
    → ((a : A) → parts (make a) ≡ a) → ((m : M) → make (parts m) ≡ m) → IsFormat (made make parts f)
made_is {A = A} {M = M} {f = f} is make parts back again = record {
  takes = reads.takes;
  again = λ m rest fits. rw (is.again (parts m) rest fits, again m) refl;
  bounded = reads.bounded;
}
  where
    reads : IsReader (λ m. f.spell (parts m)) (λ m. f.Fits (parts m)) [] (made_at make f)
    reads = body_is is (λ m. f.spell (parts m)) (λ m. f.Fits (parts m)) [] make (λ a. ap f.spell (back a)) (λ a fits. subst f.Fits (sym (back a)) fits)

pub known_as_is : {A : Type 0} {f : Format A} → IsFormat f → (Fits : A → Type 0) → ((a : A) → f.Fits a → Fits a)
    → ((a : A) → Fits a → f.Fits a) → IsFormat (known_as Fits f)
known_as_is is Fits to from = record {
  takes = λ bytes x fits e. let t = is.takes bytes x fits e in (t.0, to x.0 t.1);
  again = λ a rest fits. is.again a rest (from a fits);
  bounded = is.bounded;
}

-- ---- texts

-- A text of no bytes is UTF-8.
empty_text : is_utf8 [] ≡ true
empty_text = is_utf8-from_IsUtf8 [] ([], (refl, refl))

-- Bytes that are no text are some.
some_bytes : (n : ℕ) (bytes : List ℕ) → is_utf8 (take n bytes) ≡ false → 0 < length bytes
some_bytes zero [] e = absurd (true≢false (sym empty_text ∙ e))
some_bytes (suc n) [] e = absurd (true≢false (sym empty_text ∙ e))
some_bytes n (b ∷ bytes) e = omega arith

told_text : (n m : ℕ) (b : Bool) (bytes : List ℕ) (x : List ℕ × List ℕ) → is_utf8 (take m bytes) ≡ b
    → length bytes ≤ n → length x.1 ≤ n → IsBounded n (cond b (Ok x) (Err (BadText (length bytes))))
told_text n m true bytes x e le rest = rest
told_text n m false bytes x e le rest = (some_bytes m bytes e, le)

pub sized_text_is : {size : Format ℕ} → IsFormat size → IsFormat (sized_text size)
sized_text_is {size = size} is = record {
  takes = λ bytes x fits e.
      let a = bind_ok (size.read bytes)
      (λ n. if ltb (length n.1) n.0 then Err Short else
      (if is_utf8 (take n.0 n.1) then Ok (take n.0 n.1, drop n.0 n.1) else Err (BadText (length n.1)))) x e in
      let n : ℕ = a.0.0 in
      let rest : List ℕ = a.0.1 in
      let s = is.takes bytes a.0 fits a.1 in
      let found : List ℕ × List ℕ = (take n rest, drop n rest) in
      let g = guard_then (ltb (length rest) n) Short (if is_utf8 (take n rest) then Ok found else Err (BadText (length rest))) x a.2 in
      let t = guard_right (is_utf8 (take n rest)) (BadText (length rest)) found x g.1 in
      let long : n ≤ length rest = ltb-false _ _ g.0 in
      let len : n ≡ length (take n rest) = omega (arith, length-take n rest) in
      let front : Takes rest (take n rest) (drop n rest) = Takes-front n rest s.0.rest_fits in
      let whole : Takes bytes (size.spell n ++ take n rest) (drop n rest) = Takes-then bytes (size.spell n) rest (take n rest) (drop n rest) s.0 front in
      subst (λ (y : List ℕ × List ℕ). IsSpelled (sized_text size).spell (sized_text size).Fits bytes y) t.1
      (subst (λ (k : ℕ). Takes bytes (size.spell k ++ take n rest) (drop n rest)) len whole, (subst size.Fits len s.1, t.0));
  again = λ t rest fits.
      let long : ltb (length (t ++ rest)) (length t) ≡ false = le-ltb _ _ (omega (arith, length-append t rest)) in
      rw (
        append_assoc (size.spell (length t)) t rest,
        is.again (length t) (t ++ rest) fits.0,
        long,
        take_at t rest (length t) refl,
        drop_at t rest (length t) refl,
        fits.1,
      ) refl;
  bounded = λ bytes.
      bounded_then (length bytes) (size.read bytes)
      (λ n. if ltb (length n.1) n.0 then Err Short else
      (if is_utf8 (take n.0 n.1) then Ok (take n.0 n.1, drop n.0 n.1) else Err (BadText (length n.1)))) (is.bounded bytes)
      (λ n. guarded (length n.1) (ltb (length n.1) n.0) Short (cond (is_utf8 (take n.0 n.1)) (Ok (take n.0 n.1, drop n.0 n.1)) (Err (BadText (length n.1)))) tt
      (told_text (length n.1) n.0 (is_utf8 (take n.0 n.1)) n.1 (take n.0 n.1, drop n.0 n.1) refl (omega arith) (omega (arith, length-drop n.0 n.1))));
}

-- ---- a count and that many values

count_takes : (limit : ℕ) (bytes : List ℕ) (x : ℕ × List ℕ) → IsBytes bytes → count_at limit bytes ≡ Ok x → Takes bytes (x.0 ∷ []) x.1 × (x.0 ≤ limit)
count_takes limit [] x fits e = absurd cc
count_takes limit (n ∷ bytes) x fits e =
    let g = guard_ok (ltb limit n) (TooMany (suc (length bytes))) (n, bytes) x e in
    let few : n ≤ limit = ltb-false _ _ g.0 in
    subst (λ (y : ℕ × List ℕ). Takes (n ∷ bytes) (y.0 ∷ []) y.1 × (y.0 ≤ limit)) g.1
    (Takes-byte n bytes [] bytes (Takes-none bytes (IsBytes-rest n bytes fits)), few)

count_again : (limit n : ℕ) (rest : List ℕ) → n ≤ limit → count_at limit (n ∷ rest) ≡ Ok (n, rest)
count_again limit n rest few =
    let not_many : ltb limit n ≡ false = le-ltb _ _ few in
    rw not_many refl

count_bounded : (limit : ℕ) (bytes : List ℕ) → IsBounded (length bytes) (count_at limit bytes)
count_bounded limit [] = tt
count_bounded limit (n ∷ bytes) = guarded (suc (length bytes)) (ltb limit n) (TooMany (suc (length bytes)))
    (Ok (n, bytes)) (omega arith, omega arith) (omega arith)

pub counted_is : {A : Type 0} (limit : ℕ) {f : Format A} → IsFormat f → IsFormat (counted limit f)
counted_is {A = A} limit {f = f} is = record {
  takes = λ bytes x fits e.
      let a = bind_ok (count_at limit bytes) (λ count. many_at f.read count.0 count.1) x e in
      let c = count_takes limit bytes a.0 fits a.1 in
      let m = many_takes f.read f.spell f.Fits is.takes a.0.0 a.0.1 x c.0.rest_fits a.2 in
      let whole : Takes bytes (a.0.0 ∷ flat_map f.spell x.0) x.1 = Takes-then bytes (a.0.0 ∷ []) a.0.1 (flat_map f.spell x.0) x.1 c.0 m.0 in (
        subst (λ (k : ℕ). Takes bytes (k ∷ flat_map f.spell x.0) x.1) {x = a.0.0} {y = length x.0} (sym {a = length x.0} m.1) whole,
        (omega (arith, m.1, c.1), m.2),
      );
  again = λ items rest fits.
      rw (count_again limit (length items) (flat_map f.spell items ++ rest) fits.0) (many_again f.read f.spell f.Fits is.again items rest fits.1);
  bounded = λ bytes. bounded_then (length bytes) (count_at limit bytes) (λ count. many_at f.read count.0 count.1)
      (count_bounded limit bytes) (λ count. many_bounded f.read is.bounded count.0 count.1);
}

-- ---- a choice by a kind byte

pub no_kind_is : {A : Type 0} (spell : A → List ℕ) (Fits : A → Type 0) → IsReader spell Fits [] no_kind
no_kind_is {A = A} spell Fits = record { takes = none; bounded = within }
  where
    none : (bytes : List ℕ) (x : A × List ℕ) → IsBytes bytes → no_kind bytes ≡ Ok x → IsSpelled spell Fits bytes x
    none [] x fits e = absurd cc
    none (kind ∷ bytes) x fits e = absurd cc

    within : (bytes : List ℕ) → IsBounded {A = A} (length bytes) (no_kind bytes)
    within [] = tt
    within (kind ∷ bytes) = (omega arith, omega arith)

-- Each row of a table reads what is spelled after its kind byte.
abbrev pub AreBodies : {A : Type 0} → (A → List ℕ) → (A → Type 0) → List (ℕ × Reader A) → Type 0
AreBodies spell Fits rows = AllByRecursion (λ row. IsReader spell Fits (row.0 ∷ []) row.1) rows

picked : {A : Type 0} (kind one : ℕ) (test : Bool) (P : ℕ → Type 0) (body others : Read A) (x : A × List ℕ)
    → (test ≡ true → kind ≡ one) → (body ≡ Ok x → P one) → (others ≡ Ok x → P kind) → cond test body others ≡ Ok x → P kind
picked kind one true P body others x same here there e = subst P (sym (same refl)) (here e)
picked kind one false P body others x same here there e = there e

kinds_take : {A : Type 0} (spell : A → List ℕ) (Fits : A → Type 0) (rows : List (ℕ × Reader A)) (other : Reader A) → AreBodies spell Fits rows
    → IsReader spell Fits [] other → (kind : ℕ) (bytes : List ℕ) (x : A × List ℕ) → IsBytes (kind ∷ bytes)
    → body_at rows other kind bytes ≡ Ok x → IsSpelled spell Fits (kind ∷ bytes) x
kinds_take spell Fits [] other all by_default kind bytes x fits e = by_default.takes (kind ∷ bytes) x fits e
kinds_take spell Fits (row ∷ rows) other all by_default kind bytes x fits e =
    picked kind row.0 (eqb kind row.0) (λ k. IsSpelled spell Fits (k ∷ bytes) x) (row.1 bytes) (body_at rows other kind bytes) x (eqb-true kind row.0)
    (all.0.takes bytes x (IsBytes-rest kind bytes fits)) (kinds_take spell Fits rows other all.1 by_default kind bytes x fits) e

either_bounded : {A : Type 0} (n : ℕ) (test : Bool) (body others : Read A) → IsBounded n body → IsBounded n others → IsBounded n (cond test body others)
either_bounded n true body others here there = here
either_bounded n false body others here there = there

kinds_bounded : {A : Type 0} (spell : A → List ℕ) (Fits : A → Type 0) (rows : List (ℕ × Reader A)) (other : Reader A) → AreBodies spell Fits rows
    → IsReader spell Fits [] other → (kind : ℕ) (bytes : List ℕ) → IsBounded (suc (length bytes)) (body_at rows other kind bytes)
kinds_bounded spell Fits [] other all by_default kind bytes = by_default.bounded (kind ∷ bytes)
kinds_bounded spell Fits (row ∷ rows) other all by_default kind bytes =
    either_bounded (suc (length bytes)) (eqb kind row.0) (row.1 bytes) (body_at rows other kind bytes)
    (more_bounded (length bytes) (suc (length bytes)) (row.1 bytes) (omega arith) (all.0.bounded bytes))
    (kinds_bounded spell Fits rows other all.1 by_default kind bytes)

-- A choice by a kind byte among lawful bodies, and another lawful reader for the rest.
pub choice_is : {A : Type 0} (spell : A → List ℕ) (Fits : A → Type 0) (rows : List (ℕ × Reader A)) (other : Reader A)
    → AreBodies spell Fits rows → IsReader spell Fits [] other
    → ((a : A) (rest : List ℕ) → Fits a → choice_at rows other (spell a ++ rest) ≡ Ok (a, rest))
    → IsFormat record { spell = spell; Fits = Fits; read = choice_at rows other }
choice_is {A = A} spell Fits rows other all by_default again = record { takes = takes; again = again; bounded = bounded }
  where
    takes : (bytes : List ℕ) (x : A × List ℕ) → IsBytes bytes → choice_at rows other bytes ≡ Ok x → IsSpelled spell Fits bytes x
    takes [] x fits e = by_default.takes [] x fits e
    takes (kind ∷ bytes) x fits e = kinds_take spell Fits rows other all by_default kind bytes x fits e

    bounded : (bytes : List ℕ) → IsBounded (length bytes) (choice_at rows other bytes)
    bounded [] = by_default.bounded []
    bounded (kind ∷ bytes) = kinds_bounded spell Fits rows other all by_default kind bytes
