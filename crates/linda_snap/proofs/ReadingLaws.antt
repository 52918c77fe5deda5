-- Reading entries one after the other.
use Rattle.std.proofs.Common.{◌≡◌, ◌≢◌, ℕ, ◌+◌, ◌<◌, ◌≤◌, List, [], ◌∷◌, ◌++◌, Ok, Err, length, refl, sym, ap, subst}
use Rattle.std.proofs.Common.{◌∙◌, append_assoc, length-append, nat_cmp, arith}
use Rattle.std.specs.List.{flat_map, AllByRecursion}
use Rattle.std.specs.FinMap.{FinMap, empty, insert, entries, len, len-empty, len-entries}
use Rattle.std.proofs.lemmas.List.{flat_map_more}
use Rattle.linda_codec.specs.Formats.{Format}
use Rattle.linda_codec.specs.Lawful.{IsBytes, IsFormat}
use Rattle.linda_journal.proofs.ApartLaws.{IsApart, format_apart}
use Rattle.linda_codec.specs.declared.fault.ReadFault.{ReadFault}
use Rattle.linda_codec.specs.declared.fault.ReadFault.TheVariants as reading
use Rattle.linda_codec.proofs.TakeLaws.{ok_is}
use Rattle.linda_snap.specs.declared.reading.SnapshotFault.TheVariants.{Memory}
use Rattle.linda_snap.specs.Reading.{IsRun, IsNoRun, fault_of_read}
use Rattle.linda_snap.proofs.RisingLaws.{Rising, after_all, rising, inserted, after_more, above_all}

all_more : {A : Type 0} (P : A → Type 0) (xs : List A) (x : A) → AllByRecursion P xs → P x → AllByRecursion P (xs ++ x ∷ [])
all_more P [] x all one = (one, tt)
all_more P (y ∷ xs) x all one = (all.0, all_more P xs x all.1 one)

all_here : {A : Type 0} (P : A → Type 0) (xs : List A) (x : A) (later : List A) → AllByRecursion P (xs ++ x ∷ later) → P x
all_here P [] x later all = all.0
all_here P (y ∷ xs) x later all = all_here P xs x later all.1

-- Some values were read; there are more of them, so the next one is at the front of what is left.
pub record IsNext {A : Type 0} (spell : A → List ℕ) (xs ys : List A) (rest tail : List ℕ) : Type 0 where
  pub item : A
  pub later : List A
  pub all : ys ≡ xs ++ item ∷ later
  pub front : rest ≡ spell item ++ (flat_map spell later ++ tail)

ahead : {A : Type 0} (spell : A → List ℕ) (Fits : A → Type 0) → IsApart spell Fits → (xs ys : List A) (rest tail : List ℕ) → AllByRecursion Fits xs
    → AllByRecursion Fits ys → length xs < length ys → flat_map spell xs ++ rest ≡ flat_map spell ys ++ tail → IsNext spell xs ys rest tail
ahead spell Fits apart [] [] rest tail fits_x fits_y lt same = absurd (omega (arith, lt))
ahead spell Fits apart (x ∷ xs) [] rest tail fits_x fits_y lt same = absurd (omega (arith, lt))
ahead spell Fits apart [] (y ∷ ys) rest tail fits_x fits_y lt same =
    record { item = y; later = ys; all = refl; front = same ∙ append_assoc (spell y) (flat_map spell ys) tail }
ahead spell Fits apart (x ∷ xs) (y ∷ ys) rest tail fits_x fits_y lt same =
    let regrouped = sym (append_assoc (spell x) (flat_map spell xs) rest) ∙ same ∙ append_assoc (spell y) (flat_map spell ys) tail in
    let heads = apart x y (flat_map spell xs ++ rest) (flat_map spell ys ++ tail) fits_x.0 fits_y.0 regrouped in
    let tails = ahead spell Fits apart xs ys rest tail fits_x.1 fits_y.1 (omega (arith, lt)) heads.1 in
    record { item = tails.item; later = tails.later; all = ap (λ z. z ∷ ys) (sym heads.0) ∙ ap (λ l. x ∷ l) tails.all; front = tails.front }

pub no_entries : {X : Type 0} (m : FinMap nat_cmp X) → m ≡ empty → entries m ≡ []
no_entries {X = X} m none = none_left (entries m) (sym (len-entries m) ∙ ap len none ∙ len-empty nat_cmp X)
  where
    none_left : {A : Type 0} (es : List A) → length es ≡ 0 → es ≡ []
    none_left [] e = refl
    none_left (x ∷ es) e = absurd (omega (arith, e))

module _ {X : Type 0} (f : Format (ℕ × X)) (Good : ℕ × X → Type 0) where
  -- These entries, all of a map's, were read from the front of the bytes; and that is left.
  pub record IsReadSo (bytes : List ℕ) (m : FinMap nat_cmp X) (low count : ℕ) (rest : List ℕ) : Type 0 where
    pub parts : bytes ≡ flat_map f.spell (entries m) ++ rest
    pub count_is : length (entries m) ≡ count
    pub fits : AllByRecursion f.Fits (entries m)
    pub good : AllByRecursion Good (entries m)
    pub low_is : after_all 0 (entries m) ≡ low
    pub rest_fits : IsBytes rest

  pub none_read : (bytes : List ℕ) (m : FinMap nat_cmp X) → IsBytes bytes → m ≡ empty → IsReadSo bytes m 0 0 bytes
  none_read bytes m fits none =
      let same : [] ≡ entries m = sym (no_entries m none) in
      record {
        parts = ap (λ es. flat_map f.spell es ++ bytes) same;
        count_is = ap length (sym same);
        fits = subst (AllByRecursion f.Fits) same tt;
        good = subst (AllByRecursion Good) same tt;
        low_is = ap (after_all 0) (sym same);
        rest_fits = fits;
      }

  pub one_read : (bytes : List ℕ) (m new : FinMap nat_cmp X) (low count : ℕ) (rest after : List ℕ) (key : ℕ) (v : X) → IsFormat f
      → IsReadSo bytes m low count rest → f.read rest ≡ Ok ((key, v), after) → low ≤ key → Good (key, v) → new ≡ insert m key v
      → IsReadSo bytes new (key + 1) (count + 1) after
  one_read bytes m new low count rest after key v is so_far told rises good there =
      let taken = is.takes rest ((key, v), after) so_far.rest_fits told in
      let more : entries m ++ (key, v) ∷ [] ≡ entries new = sym (ap entries there ∙ inserted m key v (omega (arith, so_far.low_is, rises))) in
      record {
        parts =
            so_far.parts
            ∙ ap (λ l. flat_map f.spell (entries m) ++ l) taken.0.parts
            ∙ sym (append_assoc (flat_map f.spell (entries m)) (f.spell (key, v)) after)
            ∙ ap (λ l. l ++ after) (flat_map_more f.spell [] (entries m) (key, v))
            ∙ ap (λ es. flat_map f.spell es ++ after) more;
        count_is = ap length (sym more) ∙ omega (arith, length-append (entries m) ((key, v) ∷ []), so_far.count_is);
        fits = subst (AllByRecursion f.Fits) more (all_more f.Fits (entries m) (key, v) so_far.fits taken.1);
        good = subst (AllByRecursion Good) more (all_more Good (entries m) (key, v) so_far.good good);
        low_is = ap (after_all 0) (sym more) ∙ after_more 0 (entries m) (key, v) ∙ omega arith;
        rest_fits = taken.0.rest_fits;
      }

  pub all_read : (bytes : List ℕ) (m : FinMap nat_cmp X) (low count all : ℕ) (rest : List ℕ)
      → IsReadSo bytes m low count rest → count ≡ all → IsRun f Good all bytes (entries m) rest
  all_read bytes m low count all rest so_far same = record { parts = so_far.parts; count_is = so_far.count_is ∙ same; fits = so_far.fits; good = so_far.good }

  -- No good entry that follows is read next, so there are not so many.
  pub not_read : (bytes : List ℕ) (m : FinMap nat_cmp X) (low count all : ℕ) (rest : List ℕ) → IsFormat f → IsReadSo bytes m low count rest
      → count < all → ((e : ℕ × X) (after : List ℕ) → f.read rest ≡ Ok (e, after) → low ≤ e.0 → Good e → ⊥) → IsNoRun f Good all bytes
  not_read bytes m low count all rest is so_far lt none other tail run =
      let next = ahead f.spell f.Fits (format_apart is) (entries m) (entries other) rest tail so_far.fits run.fits
      (omega (arith, so_far.count_is, run.count_is, lt)) (sym so_far.parts ∙ run.parts) in
      let later : List ℕ = flat_map f.spell next.later ++ tail in
      none next.item later
      (ap f.read next.front ∙ is.again next.item later (all_here f.Fits (entries m) next.item next.later (subst (AllByRecursion f.Fits) next.all run.fits)))
      (subst (λ n. n ≤ next.item.0) so_far.low_is (above_all 0 (entries m) next.item next.later (subst (Rising 0) next.all (rising other))))
      (all_here Good (entries m) next.item next.later (subst (AllByRecursion Good) next.all run.good))

  -- Nothing was read,
  pub none_there : (bytes : List ℕ) (m : FinMap nat_cmp X) (low count all : ℕ) (rest : List ℕ) (fault : ReadFault) → IsFormat f
      → IsReadSo bytes m low count rest → count < all → (fault ≢ reading.Memory → f.read rest ≡ Err fault)
      → fault_of_read fault ≢ Memory → IsNoRun f Good all bytes
  none_there bytes m low count all rest fault is so_far lt told other =
      not_read bytes m low count all rest is so_far lt
      (λ e after there rises good. let failed : f.read rest ≡ Err fault = told (λ same. other (ap fault_of_read same)) in
      absurd (unlike (e, after) fault (sym there ∙ failed)))
    where
      unlike : {A : Type 0} (x : A) (fault : ReadFault) → Ok x ≡ Err fault → ⊥
      unlike x fault e = absurd cc

  -- or an entry that is not good, or does not follow.
  pub bad_there : (bytes : List ℕ) (m : FinMap nat_cmp X) (low count all : ℕ) (rest after : List ℕ) (e : ℕ × X) → IsFormat f
      → IsReadSo bytes m low count rest → count < all → f.read rest ≡ Ok (e, after) → (low ≤ e.0 → Good e → ⊥) → IsNoRun f Good all bytes
  bad_there bytes m low count all rest after e is so_far lt told bad =
      not_read bytes m low count all rest is so_far lt
      (λ other behind there rises good.
      let p : (ℕ × X) × List ℕ = (other, behind) in
      let q : (ℕ × X) × List ℕ = (e, after) in
      let same : other ≡ e = ap (λ (z : (ℕ × X) × List ℕ). z.0) (ok_is p q (sym there ∙ told)) in
      bad (subst (λ (z : ℕ × X). low ≤ z.0) same rises) (subst Good same good))
