-- Values none of whose spellings begins another's: bytes are read as a list of them in one way.
use Rattle.std.proofs.Common.{◌≡◌, ℕ, ◌<◌, List, [], ◌∷◌, ◌++◌, length, refl, sym, ap, ◌∙◌, append_assoc, length-append, arith}
use Rattle.std.specs.List.{flat_map, AllByRecursion}
use Rattle.linda_codec.specs.Formats.{Format}
use Rattle.linda_codec.specs.Lawful.{IsFormat}
use Rattle.linda_codec.proofs.TakeLaws.{ok_is}

-- At most one value is spelled at the front of bytes.
abbrev pub IsApart : {A : Type 0} → (A → List ℕ) → (A → Type 0) → Type 0
IsApart {A = A} spell Fits = (a b : A) (x y : List ℕ) → Fits a → Fits b → spell a ++ x ≡ spell b ++ y → (a ≡ b) × (x ≡ y)

-- This holds of a lawful format.
pub format_apart : {A : Type 0} {f : Format A} → IsFormat f → IsApart f.spell f.Fits
format_apart {A = A} {f = f} is a b x y fits_a fits_b same =
    let p : A × List ℕ = (a, x) in
    let q : A × List ℕ = (b, y) in
    let one : p ≡ q = ok_is p q (sym (is.again a x fits_a) ∙ ap f.read same ∙ is.again b y fits_b) in
    (ap (λ (z : A × List ℕ). z.0) one, ap (λ (z : A × List ℕ). z.1) one)

-- ---- values that take bytes each

module _ {A : Type 0} (spell : A → List ℕ) (Fits : A → Type 0) (apart : IsApart spell Fits) (some : (a : A) → 0 < length (spell a)) where
  -- If the spelling of some values is the front of that of others, they are the first of these.
  pub first_ones : (xs ys : List A) (rest : List ℕ) → AllByRecursion Fits xs → AllByRecursion Fits ys
      → flat_map spell ys ≡ flat_map spell xs ++ rest → (tail : List A) × (ys ≡ xs ++ tail) × (rest ≡ flat_map spell tail)
  first_ones [] ys rest fits_x fits_y same = (ys, refl, sym same)
  first_ones (x ∷ xs) [] rest fits_x fits_y same =
      let n : 0 ≡ length ((spell x ++ flat_map spell xs) ++ rest) = ap length same in
      absurd (omega (arith, some x, n, length-append (spell x) (flat_map spell xs), length-append (spell x ++ flat_map spell xs) rest))
  first_ones (x ∷ xs) (y ∷ ys) rest fits_x fits_y same =
      let heads = apart y x (flat_map spell ys) (flat_map spell xs ++ rest) fits_y.0 fits_x.0 (same ∙ append_assoc (spell x) (flat_map spell xs) rest) in
      let tails = first_ones xs ys rest fits_x.1 fits_y.1 heads.1 in
      (tails.0, cc (heads.0, tails.1), tails.2)

  none_empty : (us : List A) → flat_map spell us ≡ [] → us ≡ []
  none_empty [] same = refl
  none_empty (u ∷ us) same =
      let n : length (spell u ++ flat_map spell us) ≡ 0 = ap length same in
      absurd (omega (arith, some u, n, length-append (spell u) (flat_map spell us)))

  -- Values that are spelled alike are the same.
  pub one_list : (xs ys : List A) → AllByRecursion Fits xs → AllByRecursion Fits ys → flat_map spell xs ≡ flat_map spell ys → xs ≡ ys
  one_list [] [] fits_x fits_y same = refl
  one_list [] (y ∷ ys) fits_x fits_y same = sym (none_empty (y ∷ ys) (sym same))
  one_list (x ∷ xs) [] fits_x fits_y same = none_empty (x ∷ xs) same
  one_list (x ∷ xs) (y ∷ ys) fits_x fits_y same =
      let heads = apart x y (flat_map spell xs) (flat_map spell ys) fits_x.0 fits_y.0 same in
      let tails = one_list xs ys fits_x.1 fits_y.1 heads.1 in
      cc (heads.0, tails)

-- ---- values, and what ends them

-- Bytes that end a list of values: there are some, and no value is spelled at their front with bytes after it.
pub record Ends {A : Type 0} (spell : A → List ℕ) (Fits : A → Type 0) (rest : List ℕ) : Type 0 where
  pub some : 0 < length rest
  pub stop : (a : A) (more : List ℕ) → Fits a → rest ≡ spell a ++ more → 0 < length more → ⊥

module _ {A : Type 0} (spell : A → List ℕ) (Fits : A → Type 0) (apart : IsApart spell Fits) where
  some_behind : (us : List A) (rest : List ℕ) → 0 < length rest → 0 < length (flat_map spell us ++ rest)
  some_behind us rest some = omega (arith, some, length-append (flat_map spell us) rest)

  -- Bytes are values and what ends them in one way.
  pub one_reading : (xs ys : List A) (u v : List ℕ) → AllByRecursion Fits xs → AllByRecursion Fits ys
      → Ends spell Fits u → Ends spell Fits v → flat_map spell xs ++ u ≡ flat_map spell ys ++ v → (xs ≡ ys) × (u ≡ v)
  one_reading [] [] u v fits_x fits_y end_u end_v same = (refl, same)
  one_reading [] (y ∷ ys) u v fits_x fits_y end_u end_v same =
      absurd (end_u.stop y (flat_map spell ys ++ v) fits_y.0 (same ∙ append_assoc (spell y) (flat_map spell ys) v) (some_behind ys v end_v.some))
  one_reading (x ∷ xs) [] u v fits_x fits_y end_u end_v same =
      absurd (end_v.stop x (flat_map spell xs ++ u) fits_x.0 (sym same ∙ append_assoc (spell x) (flat_map spell xs) u) (some_behind xs u end_u.some))
  one_reading (x ∷ xs) (y ∷ ys) u v fits_x fits_y end_u end_v same =
      let regrouped = sym (append_assoc (spell x) (flat_map spell xs) u) ∙ same ∙ append_assoc (spell y) (flat_map spell ys) v in
      let heads = apart x y (flat_map spell xs ++ u) (flat_map spell ys ++ v) fits_x.0 fits_y.0 regrouped in
      let tails = one_reading xs ys u v fits_x.1 fits_y.1 end_u end_v heads.1 in
      (cc (heads.0, tails.0), tails.1)
