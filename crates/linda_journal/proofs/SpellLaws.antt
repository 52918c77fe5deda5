-- Deeds that are spelled as record after record.
use Rattle.std.proofs.Common.{◌≡◌, ℕ, suc, inl, inr, ◌+◌, ◌*◌, ◌<◌, ◌≤◌, List, [], ◌∷◌, ◌++◌, All, length, take, drop}
use Rattle.std.proofs.Common.{refl, sym, ap, subst, ◌∙◌, append_assoc, append-nil, length-append, arith}
use Rattle.std.proofs.lemmas.Grind.{flat_map-append}
use Rattle.std.proofs.lemmas.List.Elements.{All-nil, All-take, All-drop}
use Rattle.std.proofs.lemmas.List.{flat_map_more, take-append-drop}
use Rattle.std.proofs.lemmas.Bool.{cases_lt}
use Rattle.linda_codec.specs.Formats.{short_number}
use Rattle.linda_tuple.specs.declared.form.Form.{Form}
use Rattle.linda_store_state.specs.declared.deed.Deed.{Deed}
use Rattle.linda_journal.specs.declared.kinds.TheConstants.{CLOSED}
use Rattle.linda_journal.specs.declared.limits.TheConstants.{MAX_DEEDS, RECORD_HEAD}
use Rattle.linda_journal.specs.Records.{spell_deed, FitsDeed, IsRecord, payload, record_body, spell_record}
use Rattle.linda_journal.specs.Records.{spell_records, deeds_in, records_for, bytes_for, AreIn, AreRecords, AreSpelled}
use Rattle.linda_journal.proofs.PayloadLaws.{all_with}

-- ---- while records are spelled

-- Of these deeds the first ones were spelled as these records, and those are left.
pub record AreSpelledTo (form : Form) (ds : List Deed) (out : List ℕ) (rest : List Deed) : Type 0 where
  pub records : List (List Deed)
  pub parts : ds ≡ deeds_in records ++ rest
  pub good : All (IsRecord form) records
  pub out_is : out ≡ spell_records form records
  pub count : length records ≡ records_for (length (deeds_in records))
  -- If any are left, each record has as many as it may have.
  pub whole : 0 < length rest → length (deeds_in records) ≡ MAX_DEEDS * length records
  pub fits : All (FitsDeed form) rest

pub none_spelled : (form : Form) (ds : List Deed) (out : List ℕ) → out ≡ [] → All (FitsDeed form) ds → AreSpelledTo form ds out ds
none_spelled form ds out none fits = record {
  records = [];
  parts = refl;
  good = All-nil (IsRecord form);
  out_is = none;
  count = zero_for;
  whole = λ some. refl;
  fits = fits;
}
  where
    zero_for : 0 ≡ records_for 0
    zero_for = omega arith

-- The next record's deeds have a spelling.
pub next_good : (form : Form) (ds : List Deed) (out : List ℕ) (rest batch : List Deed) (n : ℕ)
    → AreSpelledTo form ds out rest → batch ≡ take n rest → 0 < length batch → length batch ≤ MAX_DEEDS → IsRecord form batch
next_good form ds out rest batch n so_far is some few =
    record { some = some; few = few; fits = subst (All (FitsDeed form)) (sym is) (All-take (FitsDeed form) n rest so_far.fits) }

joined_with : (records : List (List Deed)) (batch : List Deed) → deeds_in records ++ batch ≡ deeds_in (records ++ batch ∷ [])
joined_with records batch = flat_map_more (λ (l : List Deed). l) [] records batch

counted_with : (k n b : ℕ) → k ≡ records_for n → n ≡ MAX_DEEDS * k → 0 < b → b ≤ MAX_DEEDS → k + 1 ≡ records_for (n + b)
counted_with k n b count whole some few = omega (arith, count, whole, some, few)

pub one_more_spelled : (form : Form) (ds : List Deed) (out : List ℕ) (rest batch after : List Deed) (n : ℕ) (new : List ℕ)
    → AreSpelledTo form ds out rest → batch ≡ take n rest → after ≡ drop n rest → IsRecord form batch
    → (length batch < MAX_DEEDS → length batch ≡ length rest) → new ≡ out ++ spell_record form batch → AreSpelledTo form ds new after
one_more_spelled form ds out rest batch after n new so_far front left is all new_is =
    let records = so_far.records in
    let split : rest ≡ batch ++ after = sym (take-append-drop n rest) ∙ ap (λ l. l ++ drop n rest) (sym front) ∙ ap (λ l. batch ++ l) (sym left) in
    let long : length rest ≡ length batch + length after = ap length split ∙ length-append batch after in
    let some : 0 < length rest = omega (arith, long, is.some) in
    let joined : deeds_in (records ++ batch ∷ []) ≡ deeds_in records ++ batch = sym (joined_with records batch) in
    let more : length (deeds_in (records ++ batch ∷ [])) ≡ length (deeds_in records) + length batch =
    ap length joined ∙ length-append (deeds_in records) batch in
    let number : length (records ++ batch ∷ []) ≡ length records + 1 = length-append records (batch ∷ []) in
    record {
      records = records ++ batch ∷ [];
      parts = so_far.parts ∙ ap (λ l. deeds_in records ++ l) split ∙ sym (append_assoc (deeds_in records) batch after)
          ∙ ap (λ l. l ++ after) (joined_with records batch);
      good = all_with (IsRecord form) records batch so_far.good is;
      out_is = new_is ∙ ap (λ l. l ++ spell_record form batch) so_far.out_is ∙ flat_map_more (spell_record form) [] records batch;
      count = number ∙ counted_with (length records) (length (deeds_in records)) (length batch) so_far.count (so_far.whole some) is.some is.few
          ∙ ap records_for (sym more);
      whole = λ left. filled (length batch) (length rest) (length after) (length records) (length (deeds_in records))
          (length (deeds_in (records ++ batch ∷ []))) (length (records ++ batch ∷ [])) long left all is.few (so_far.whole some) more number;
      fits = subst (All (FitsDeed form)) (sym left) (All-drop (FitsDeed form) n rest so_far.fits);
    }
  where
    filled : (b r a k n m j : ℕ) → r ≡ b + a → 0 < a → (b < MAX_DEEDS → b ≡ r) → b ≤ MAX_DEEDS → n ≡ MAX_DEEDS * k → m ≡ n + b → j ≡ k + 1 → m ≡ MAX_DEEDS * j
    filled b r a k n m j long left all few whole more number =
        elim (cases_lt b MAX_DEEDS) [
          | inl lt ↦ absurd (let same = all lt in omega (arith, same, long, left))
          | inr le ↦ omega (arith, le, few, whole, more, number)
        ]

-- ---- once all are spelled

pub each_spelled : (form : Form) (ds : List Deed) (out : List ℕ) (rest : List Deed) → AreSpelledTo form ds out rest → length rest ≡ 0 → AreRecords form ds out
each_spelled form ds out rest so_far none =
    let all : ds ≡ deeds_in so_far.records = same rest none so_far.parts in
    record {
      records = so_far.records;
      are = record { all = sym all; count = so_far.count ∙ ap (λ l. records_for (length l)) (sym all) };
      good = so_far.good;
      bytes_are = so_far.out_is;
    }
  where
    same : (rest : List Deed) → length rest ≡ 0 → ds ≡ deeds_in so_far.records ++ rest → ds ≡ deeds_in so_far.records
    same [] none parts = parts ∙ append-nil (deeds_in so_far.records)
    same (d ∷ rest) none parts = absurd (omega (arith, none))

-- With a closed gate after them they are what is appended.
pub all_spelled : (form : Form) (ds : List Deed) (out bytes : List ℕ) → AreRecords form ds out
    → 1 ≤ length ds → bytes ≡ out ++ CLOSED ∷ [] → AreSpelled form ds bytes
all_spelled form ds out bytes is some bytes_are = by is.records is.are is.good is.bytes_are
  where
    by : (records : List (List Deed)) → AreIn ds records → All (IsRecord form) records → out ≡ spell_records form records → AreSpelled form ds bytes
    by [] are good out_is = absurd (let n : 0 ≡ length ds = ap length are.all in omega (arith, n, some))
    by (r ∷ rs) are good out_is = record {
      records = r ∷ rs;
      are = are;
      good = good;
      behind = record_body form r ++ spell_records form rs;
      starts = refl;
      bytes_are = bytes_are ∙ ap (λ l. l ++ CLOSED ∷ []) out_is;
    }

-- ---- how long records are

record_long : (form : Form) (r : List Deed) → length (spell_record form r) ≡ RECORD_HEAD + length (payload form r)
record_long form r = omega (arith, length-append (short_number.spell (length (payload form r))) (payload form r))

spelled_long : (form : Form) (rs : List (List Deed)) → length (spell_records form rs) ≡ RECORD_HEAD * length rs + length (payload form (deeds_in rs))
spelled_long form [] = omega arith
spelled_long form (r ∷ rs) =
    let whole = length-append (spell_record form r) (spell_records form rs) in
    let joined : length (payload form (deeds_in (r ∷ rs))) ≡ length (payload form r) + length (payload form (deeds_in rs)) =
    ap length (flat_map-append (spell_deed form) r (deeds_in rs)) ∙ length-append (payload form r) (payload form (deeds_in rs))
    in
    omega (arith, whole, joined, record_long form r, spelled_long form rs)

pub records_long : (form : Form) (ds : List Deed) (rs : List (List Deed)) → AreIn ds rs
    → length (spell_records form rs) ≡ bytes_for (length ds) (length (payload form ds))
records_long form ds rs are =
    spelled_long form rs ∙ ap (λ n. RECORD_HEAD * n + length (payload form (deeds_in rs))) are.count
    ∙ ap (λ l. RECORD_HEAD * records_for (length ds) + length (payload form l)) are.all

-- What is written after the gate is as long as the records.
pub bytes_long : (form : Form) (ds : List Deed) (bytes written : List ℕ) (s : AreSpelled form ds bytes)
    → written ≡ drop 1 bytes → length written ≡ bytes_for (length ds) (length (payload form ds))
bytes_long form ds bytes written s is =
    let all : length written ≡ length (s.behind ++ CLOSED ∷ []) = ap length (is ∙ ap (drop 1) s.bytes_are) in
    let starts : length (spell_records form s.records) ≡ suc (length s.behind) = ap length s.starts in
    omega (arith, all, starts, length-append s.behind (CLOSED ∷ []), records_long form ds s.records s.are)

-- ---- one record

-- As many deeds as a record may have take one, which is all of them.
pub one_record : (ds : List Deed) (rs : List (List Deed)) → AreIn ds rs → 1 ≤ length ds → length ds ≤ MAX_DEEDS → rs ≡ ds ∷ []
one_record ds rs are some few = by rs are.all (are.count ∙ one_for (length ds) some few)
  where
    one_for : (n : ℕ) → 1 ≤ n → n ≤ MAX_DEEDS → records_for n ≡ 1
    one_for n some few = omega (arith, some, few)

    by : (rs : List (List Deed)) → deeds_in rs ≡ ds → length rs ≡ 1 → rs ≡ ds ∷ []
    by [] all n = absurd (omega (arith, n))
    by (r ∷ []) all n = ap (λ l. l ∷ []) (sym (append-nil r) ∙ all)
    by (r ∷ q ∷ rs) all n = absurd (omega (arith, n))

pub one_count : (n : ℕ) → 1 ≤ n → n ≤ MAX_DEEDS → records_for n ≡ 1
one_count n some few = omega (arith, some, few)

pub one_long : (form : Form) (ds : List Deed) → 1 ≤ length ds → length ds ≤ MAX_DEEDS
    → bytes_for (length ds) (length (payload form ds)) ≡ length (spell_record form ds)
one_long form ds some few = ap (λ n. RECORD_HEAD * n + length (payload form ds)) (one_count (length ds) some few)
    ∙ sum (length (payload form ds)) ∙ sym (record_long form ds)
  where
    sum : (n : ℕ) → RECORD_HEAD * 1 + n ≡ RECORD_HEAD + n
    sum n = omega arith
