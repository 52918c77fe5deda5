-- Counting a payload's deeds one by one, and reading so many.
use Rattle.std.proofs.Common.{◌≡◌, ℕ, ◌+◌, ◌<◌, ◌≤◌, List, [], ◌∷◌, ◌++◌, All, length, drop, Result, Ok, Err, refl, sym}
use Rattle.std.proofs.Common.{ap, subst, ◌∙◌, append_assoc, append-nil, length-append, arith}
use Rattle.std.specs.List.{AllByRecursion}
use Rattle.std.proofs.lemmas.List.Elements.{recursion_from_All, All-append, All-nil, All-cons}
use Rattle.std.proofs.lemmas.List.{flat_map_more, drop_at}
use Rattle.linda_codec.specs.declared.fault.ReadFault.{ReadFault}
use Rattle.linda_codec.specs.Lawful.{IsBytes}
use Rattle.linda_codec.specs.Steps.{Read, left_by, many_at}
use Rattle.linda_codec.proofs.SkipLaws.{is_fault}
use Rattle.linda_codec.proofs.TakeLaws.{IsBytes-drop}
use Rattle.linda_codec.proofs.ManyLaws.{many_again}
use Rattle.linda_tuple.specs.declared.form.Form.{Form}
use Rattle.linda_store_state.specs.declared.deed.Deed.{Deed}
use Rattle.linda_journal.specs.declared.limits.TheConstants.{MAX_DEEDS}
use Rattle.linda_journal.specs.Records.{deed, spell_deed, FitsDeed, payload, IsRecord, IsPayloadOf, IsNoPayload}
use Rattle.linda_journal.proofs.ApartLaws.{IsApart, format_apart, first_ones}
use Rattle.linda_store_state.proofs.DeedFormatLaws.{deed_is, deed_some}

pub deeds_apart : (form : Form) → IsApart (spell_deed form) (FitsDeed form)
deeds_apart form = format_apart (deed_is form)

-- One item more of a list, each of which has a fact.
pub all_with : {A : Type 0} (P : A → Type 0) (xs : List A) (x : A) → All P xs → P x → All P (xs ++ x ∷ [])
all_with P xs x so_far one = All-append P xs (x ∷ []) so_far (All-cons P x [] one (All-nil P))

-- ---- while deeds are counted

-- These deeds are at the front of the bytes, and this is left after them.
pub record IsReadTo (form : Form) (bytes : List ℕ) (ds : List Deed) (rest : List ℕ) : Type 0 where
  pub parts : bytes ≡ payload form ds ++ rest
  pub fits : All (FitsDeed form) ds
  pub few : length ds ≤ MAX_DEEDS

-- So many deeds are at the front of the bytes, and this is left after them.
pub record IsCountedTo (form : Form) (bytes : List ℕ) (count : ℕ) (rest : List ℕ) : Type 0 where
  pub deeds : List Deed
  pub read : IsReadTo form bytes deeds rest
  pub count_is : length deeds ≡ count

pub none_counted : (form : Form) (bytes : List ℕ) → IsCountedTo form bytes 0 bytes
none_counted form bytes = record { deeds = []; read = record { parts = refl; fits = All-nil (FitsDeed form); few = omega arith }; count_is = refl }

one_deed_more : (form : Form) (bytes : List ℕ) (ds : List Deed) (rest : List ℕ) (d : Deed) (after : List ℕ) → IsReadTo form bytes ds rest
    → IsBytes bytes → length ds < MAX_DEEDS → (deed form).read rest ≡ Ok (d, after) → IsReadTo form bytes (ds ++ d ∷ []) after
one_deed_more form bytes ds rest d after so_far fits lt e =
    let left : drop (length (payload form ds)) bytes ≡ rest = ap (drop (length (payload form ds))) so_far.parts
    ∙ drop_at (payload form ds) rest (length (payload form ds)) refl in
    let t = (deed_is form).takes rest (d, after) (subst IsBytes left (IsBytes-drop (length (payload form ds)) bytes fits)) e in
    record {
      parts = so_far.parts ∙ ap (λ r. payload form ds ++ r) t.0.parts ∙ sym (append_assoc (payload form ds) (spell_deed form d) after)
          ∙ ap (λ s. s ++ after) (flat_map_more (spell_deed form) [] ds d);
      fits = all_with (FitsDeed form) ds d so_far.fits t.1;
      few = omega (arith, lt, length-append ds (d ∷ []));
    }

same_bytes : (xs ys : List ℕ) → (let a : Result (List ℕ) ReadFault = Ok xs in a) ≡ Ok ys → xs ≡ ys
same_bytes xs ys e = cc

-- What was read if these bytes are left.
read_before : {A : Type 0} (read : Read A) (after : List ℕ) → left_by read ≡ Ok after → (a : A) × (read ≡ Ok (a, after))
read_before {A = A} (Ok x) after e = (x.0, ap (λ (r : List ℕ). let a : Read A = Ok (x.0, r) in a) (same_bytes x.1 after e))
read_before (Err fault) after e = absurd cc

pub one_more_counted : (form : Form) (bytes : List ℕ) (count : ℕ) (rest after : List ℕ) → IsCountedTo form bytes count rest
    → IsBytes bytes → count < MAX_DEEDS → left_by ((deed form).read rest) ≡ Ok after → IsCountedTo form bytes (count + 1) after
one_more_counted form bytes count rest after so_far fits lt e =
    let d = read_before ((deed form).read rest) after e in
    record {
      deeds = so_far.deeds ++ d.0 ∷ [];
      read = one_deed_more form bytes so_far.deeds rest d.0 after so_far.read fits (omega (arith, lt, so_far.count_is)) d.1;
      count_is = omega (arith, so_far.count_is, length-append so_far.deeds (d.0 ∷ []));
    }

-- ---- when the counting ends

-- All of it was counted.
pub is_whole : (form : Form) (bytes : List ℕ) (count : ℕ) (rest : List ℕ) → IsCountedTo form bytes count rest
    → length rest ≡ 0 → 1 ≤ count → IsPayloadOf form bytes count
is_whole form bytes count [] so_far none some = record {
  deeds = so_far.deeds;
  good = record { some = omega (arith, some, so_far.count_is); few = so_far.read.few; fits = so_far.read.fits };
  parts = so_far.read.parts ∙ append-nil (payload form so_far.deeds);
  count_is = so_far.count_is;
}
is_whole form bytes count (b ∷ rest) so_far none some = absurd (omega (arith, none))

-- What is to be read yet of a record, whose first deeds were read.
left_of : (form : Form) (bytes : List ℕ) (ds : List Deed) (rest : List ℕ) (es : List Deed) → IsReadTo form bytes ds rest
    → IsRecord form es → bytes ≡ payload form es → (tail : List Deed) × (es ≡ ds ++ tail) × (rest ≡ payload form tail)
left_of form bytes ds rest es so_far is e =
    first_ones (spell_deed form) (FitsDeed form) (deeds_apart form) (deed_some form) ds es rest
    (recursion_from_All (FitsDeed form) ds so_far.fits) (recursion_from_All (FitsDeed form) es is.fits) (sym e ∙ so_far.parts)

fits_behind : (form : Form) (ds tail : List Deed) → AllByRecursion (FitsDeed form) (ds ++ tail) → AllByRecursion (FitsDeed form) tail
fits_behind form [] tail fits = fits
fits_behind form (d ∷ ds) tail fits = fits_behind form ds tail fits.1

reads_on : (form : Form) (tail : List Deed) (rest : List ℕ) (fault : ReadFault) → AllByRecursion (FitsDeed form) tail
    → rest ≡ payload form tail → 0 < length rest → (deed form).read rest ≡ Err fault → ⊥
reads_on form [] rest fault fits e some bad = absurd (let n : length rest ≡ 0 = ap length e in omega (arith, n, some))
reads_on form (d ∷ tail) rest fault fits e some bad =
    let again : (deed form).read rest ≡ Ok (d, payload form tail) = ap (deed form).read e ∙ (deed_is form).again d (payload form tail) fits.0 in
    absurd cc

-- No deed is at the front of what is left.
pub no_deed_there : (form : Form) (bytes : List ℕ) (count : ℕ) (rest : List ℕ) (fault : ReadFault)
    → IsCountedTo form bytes count rest → 0 < length rest → left_by ((deed form).read rest) ≡ Err fault → IsNoPayload form bytes
no_deed_there form bytes count rest fault so_far some bad es is e =
    let t = left_of form bytes so_far.deeds rest es so_far.read is e in
    reads_on form t.0 rest fault
    (fits_behind form so_far.deeds t.0 (subst (AllByRecursion (FitsDeed form)) t.1 (recursion_from_All (FitsDeed form) es is.fits))) t.2 some
    (is_fault ((deed form).read rest) fault bad)

some_deeds : (form : Form) (tail : List Deed) (rest : List ℕ) → rest ≡ payload form tail → 0 < length rest → 0 < length tail
some_deeds form [] rest e some = absurd (let n : length rest ≡ 0 = ap length e in omega (arith, n, some))
some_deeds form (d ∷ tail) rest e some = omega arith

-- After as many deeds as a record may have there is more.
pub too_many : (form : Form) (bytes : List ℕ) (count : ℕ) (rest : List ℕ) → IsCountedTo form bytes count rest
    → 0 < length rest → MAX_DEEDS ≤ count → IsNoPayload form bytes
too_many form bytes count rest so_far some many es is e =
    let t = left_of form bytes so_far.deeds rest es so_far.read is e in
    let n : length es ≡ length so_far.deeds + length t.0 = ap length t.1 ∙ length-append so_far.deeds t.0 in
    omega (arith, n, many, so_far.count_is, is.few, some_deeds form t.0 rest t.2 some)

-- There is no deed at all.
pub no_deeds : (form : Form) (bytes : List ℕ) (count : ℕ) (rest : List ℕ) → IsCountedTo form bytes count rest
    → length rest ≡ 0 → count ≡ 0 → IsNoPayload form bytes
no_deeds form bytes count rest so_far none no_count es is e =
    let t = left_of form bytes so_far.deeds rest es so_far.read is e in
    by t.0 t.1 t.2
  where
    by : (tail : List Deed) → es ≡ so_far.deeds ++ tail → rest ≡ payload form tail → ⊥
    by [] es_is rest_is = let n : length es ≡ length so_far.deeds + 0 = ap length es_is
        ∙ length-append so_far.deeds [] in omega (arith, n, no_count, so_far.count_is, is.some)
    by (d ∷ tail) es_is rest_is =
        let n : length rest ≡ length (spell_deed form d) + length (payload form tail) = ap length rest_is
        ∙ length-append (spell_deed form d) (payload form tail) in
        omega (arith, n, none, deed_some form d)

-- ---- when deeds are read

same_pair : (x y : List Deed × List ℕ) → (let a : Read (List Deed) = Ok x in a) ≡ Ok y → x ≡ y
same_pair x y e = cc

-- What a payload is read as, so many deeds, are those that it spells.
pub deeds_there : (form : Form) (ds : List Deed) (count : ℕ) (bytes : List ℕ) → IsRecord form ds
    → bytes ≡ payload form ds → length ds ≡ count → many_at (deed form).read count bytes ≡ Ok (ds, [])
deeds_there form ds count bytes is spelled count_is =
    let whole : bytes ≡ payload form ds ++ [] = spelled ∙ sym (append-nil (payload form ds)) in
    rw (sym count_is, whole) (many_again (deed form).read (spell_deed form) (FitsDeed form) (deed_is form).again ds [] is.fits)

pub deeds_are : (form : Form) (ds : List Deed) (count : ℕ) (bytes : List ℕ) (x : List Deed × List ℕ) → IsRecord form ds
    → bytes ≡ payload form ds → length ds ≡ count → many_at (deed form).read count bytes ≡ Ok x → x.0 ≡ ds
deeds_are form ds count bytes x is spelled count_is told =
    ap (λ (y : List Deed × List ℕ). y.0) (same_pair x (ds, []) (sym told ∙ deeds_there form ds count bytes is spelled count_is))
