-- How the records go on of a new bank that is written in steps: what is done meanwhile, and the end.
use Rattle.std.proofs.Common.{◌≡◌, ℕ, ◌+◌, ◌<◌, ◌≤◌, ◌^◌, true, List, [], ◌∷◌, ◌++◌, length, take, drop, Option, Some}
use Rattle.std.proofs.Common.{None, sym, ap, subst, ◌∙◌, append_assoc, length-append}
use Rattle.std.proofs.Common.{arith}
use Rattle.std.specs.Prelude.{IfSome, IfNone}
use Rattle.std.specs.Global.{Vec}
use Rattle.std.proofs.Math.Seq.{drop-append_seam}
use Rattle.std.proofs.lemmas.Grind.{flat_map-append}
use Rattle.std.proofs.lemmas.List.{take-append-drop}
use Rattle.std.proofs.lemmas.List.Elements.{All-append}
use Rattle.linda_codec.specs.Formats.{number, short_number}
use Rattle.linda_store_state.specs.DeedFormat.{written}
use Rattle.linda_store_state.specs.declared.deed.Deed.{Deed}
use Rattle.linda_store_state.specs.Deed.{is_taken}
use Rattle.linda_store_state.specs.After.{IsAfter}
use Rattle.linda_store_state.specs.Proper.{AreDone}
use Rattle.linda_store_state.specs.State.{State, IsState}
use Rattle.linda_store_state.proofs.ProperLaws.{none_done}
use Rattle.linda_journal.specs.declared.kinds.TheConstants.{CLOSED}
use Rattle.linda_journal.specs.Bank.{magic, behind_gate}
use Rattle.linda_journal.specs.declared.limits.TheConstants.{MIN_BYTES}
use Rattle.linda_journal.specs.Records.{IsRecord, AreRecords, records_for, spell_record, spell_records}
use Rattle.linda_journal.specs.Renewal.{IsLast}
use Rattle.linda_journal.proofs.FillingLaws.{last_long}
use Rattle.linda_snap.specs.declared.snapshot_encoder.SnapshotEncoder.{SnapshotEncoder}
use Rattle.linda_snap.specs.declared.bank_writer.BankWriter.{BankWriter}
use Rattle.linda_snap.specs.declared.deed_log.DeedLog.{DeedLog}
use Rattle.linda_snap.specs.SnapshotEncoder.{IsSafe}
use Rattle.linda_snap.specs.Replay.{GoesOn}
use Rattle.linda_snap.specs.Snapshot.{spell_state}
use Rattle.linda_snap.specs.Stands.{deeds_in}
use Rattle.linda_snap.specs.BankWriter.{Follows, IsSafeFor, Completes, heading}
use Rattle.linda_snap.proofs.SnapshotWriterLaws.{owes_after}
use Rattle.linda_snap.proofs.BankWriterLaws.{OwesAll, ListsAll, IsAll, with_since}

-- A first piece of those that are left is written.
pub piece_written : (s : BankWriter) (since : DeedLog) (most : ℕ) (left piece front new : List ℕ) (st : State) → s.snapshot ≡ None
    → s.clients ≡ None → Follows s front st → left ≡ drop s.since.written s.since.bytes.items → piece ≡ take most left → length piece ≡ most
    → since.bytes ≡ s.since.bytes → since.written ≡ s.since.written + most → new ≡ piece → Follows (with_since s since s.records) (front ++ new) st
piece_written s since most left piece front new st none gone f left_is piece_is long bytes passed new_is =
    let all = heading s.generation (length (spell_state written f.begun)) in
    let rest : left ≡ f.left = left_is ∙ ap (λ n. drop n s.since.bytes.items) f.place
    ∙ ap (λ l. drop (length f.tail) l) f.parts ∙ drop-append_seam f.tail f.left in
    let split : f.left ≡ piece ++ drop most left = sym rest ∙ sym (take-append-drop most left) ∙ ap (λ l. l ++ drop most left) (sym piece_is) in
    subst (λ l. Follows (with_since s since s.records) (front ++ l) st) (sym new_is) record {
      begun = f.begun;
      ranges = f.ranges;
      short = f.short;
      len = f.len;
      low = f.low;
      high = f.high;
      records = f.records;
      count = f.count;
      good = f.good;
      done = f.done;
      tail = f.tail ++ piece;
      left = drop most left;
      spelled = ap (λ (v : Vec ℕ). v.items) bytes ∙ f.spelled;
      parts = ap (λ (v : Vec ℕ). v.items) bytes ∙ f.parts ∙ ap (λ l. f.tail ++ l) split ∙ sym (append_assoc f.tail piece (drop most left));
      place = omega (arith, passed, f.place, long, length-append f.tail piece);
      within = subst (λ (v : Vec ℕ). MIN_BYTES + 1 + s.len + length v.items ≤ s.limit) (sym bytes) f.within;
      body = f.body;
      front_is =
          ap (λ l. l ++ piece) f.front_is
          ∙ append_assoc all (f.body ++ f.tail) piece
          ∙ ap (λ l. all ++ l) (append_assoc f.body f.tail piece);
      owes = subst (λ o. IfSome o (OwesAll f.begun f.body (f.tail ++ piece) st)) (sym none) tt;
      lists = subst (λ o. IfNone s.snapshot (IfSome o (ListsAll f.begun f.body (f.tail ++ piece)))) (sym gone) (subst (λ o. IfNone o (Unit {0})) (sym none) tt);
      whole = f.whole;
    }

-- What comes after the heading.
headed : (generation : ℕ) (body rest : List ℕ) → heading generation (length body) ++ (body ++ rest) ≡ behind_gate written generation body ++ rest
headed generation body rest =
    let n = number.spell generation in
    let l = short_number.spell (length body) in
    append_assoc (magic written) (n ++ l) (body ++ rest)
    ∙ ap (λ b. magic written ++ b) (append_assoc n l (body ++ rest))
    ∙ ap (λ b. magic written ++ (n ++ b)) (sym (append_assoc l body rest))
    ∙ ap (λ b. magic written ++ b) (sym (append_assoc n (l ++ body) rest))
    ∙ sym (append_assoc (magic written) (n ++ (l ++ body)) rest)

-- The others, and a closed gate, end the bank.
pub completes : (s : BankWriter) (left front bytes : List ℕ) (st : State) → s.snapshot ≡ None → s.clients ≡ None
    → Follows s front st → left ≡ drop s.since.written s.since.bytes.items → bytes ≡ left ++ CLOSED ∷ [] → Completes s front bytes st
completes s left front bytes st none gone f left_is bytes_is =
    let whole = subst (λ o. IfNone o (IsAll f.begun f.body)) gone (subst (λ o. IfNone o (IfNone s.clients (IsAll f.begun f.body))) none f.whole) in
    let body = spell_state written f.begun in
    let rest : left ≡ f.left = left_is ∙ ap (λ n. drop n s.since.bytes.items) f.place
    ∙ ap (λ l. drop (length f.tail) l) f.parts ∙ drop-append_seam f.tail f.left in
    let all : f.tail ++ f.left ≡ spell_records written f.records = sym f.parts ∙ f.spelled in
    let last : IsLast s.generation body f.records front bytes = record {
      low = f.low;
      fits = f.high;
      short = f.short;
      good = f.good;
      parts =
          ap (λ l. front ++ l) (bytes_is ∙ ap (λ l. l ++ CLOSED ∷ []) rest)
          ∙ ap (λ l. l ++ (f.left ++ CLOSED ∷ [])) (f.front_is ∙ ap (λ b. heading s.generation (length body) ++ (b ++ f.tail)) whole.0)
          ∙ append_assoc (heading s.generation (length body)) (body ++ f.tail) (f.left ++ CLOSED ∷ [])
          ∙ ap (λ l. heading s.generation (length body) ++ l) (append_assoc body f.tail (f.left ++ CLOSED ∷ [])
          ∙ ap (λ l. body ++ l) (sym (append_assoc f.tail f.left (CLOSED ∷ [])) ∙ ap (λ l. l ++ CLOSED ∷ []) all))
          ∙ headed s.generation body (spell_records written f.records ++ CLOSED ∷ [])
          ∙ sym (append_assoc (behind_gate written s.generation body) (spell_records written f.records) (CLOSED ∷ []));
    } in
    record {
      begun = f.begun;
      ranges = f.ranges;
      fits = whole.1;
      records = f.records;
      done = f.done;
      last = last;
      count = f.count;
      within = omega (arith, f.within, f.len, ap length f.spelled, last_long s.generation body f.records front bytes last);
    }

-- Each record has a byte.
few_records : (rs : List (List Deed)) → length rs ≤ length (spell_records written rs)
few_records [] = omega arith
few_records (r ∷ rs) = omega (arith, few_records rs, length-append (spell_record written r) (spell_records written rs))

-- There are no more records than bytes.
pub counts : (s : BankWriter) (front bytes : List ℕ) (st : State) → Completes s front bytes st → s.records < 1 + length front + length bytes
counts s front bytes st whole =
    omega (arith, whole.count, few_records whole.records, last_long s.generation (spell_state written whole.begun) whole.records front bytes whole.last)

-- ---- what is done meanwhile

-- Deeds that take only safe tuples are noted.
pub notes : (s : BankWriter) (since : DeedLog) (records : ℕ) (front more : List ℕ) (st new : State) (ds : List Deed)
    → IsState st → GoesOn st ds new → ((id : ℕ) → is_taken id ds ≡ true → IsSafeFor s st.bag id) → Follows s front st
    → AreRecords written ds more → MIN_BYTES + 1 + s.len + (length s.since.bytes.items + length more) ≤ s.limit
    → length s.since.bytes.items + length more < 2 ^ 64
    → (s.records + records_for (length ds) < 2 ^ 64 → records ≡ s.records + records_for (length ds))
    → since.bytes.items ≡ s.since.bytes.items ++ more → since.written ≡ s.since.written → Follows (with_since s since records) front new
notes s since records front more st new ds ranges goes safe f are fits small counted bytes passed = record {
  begun = f.begun;
  ranges = f.ranges;
  short = f.short;
  len = f.len;
  low = f.low;
  high = f.high;
  records = f.records ++ are.records;
  count = omega (arith, counted (omega (arith, small, f.count, few, more_few)), f.count, are.are.count, length-append f.records are.records);
  good = All-append (IsRecord written) f.records are.records f.good are.good;
  done = subst (λ l. AreDone f.begun l new) (ap (λ l. deeds_in f.records ++ l) (sym are.are.all)
      ∙ sym (flat_map-append (λ (r : List Deed). r) f.records are.records)) (goes f.begun (deeds_in f.records) f.ranges f.done);
  tail = f.tail;
  left = f.left ++ more;
  spelled = bytes ∙ ap (λ l. l ++ more) f.spelled ∙ ap (λ l. spell_records written f.records ++ l) are.bytes_are
      ∙ sym (flat_map-append (spell_record written) f.records are.records);
  parts = bytes ∙ ap (λ l. l ++ more) f.parts ∙ append_assoc f.tail f.left more;
  place = passed ∙ f.place;
  within = omega (arith, fits, ap length bytes, length-append s.since.bytes.items more);
  body = f.body;
  front_is = f.front_is;
  owes = by s.snapshot f.owes safe;
  lists = f.lists;
  whole = f.whole;
}
  where
    few : length f.records ≤ length s.since.bytes.items
    few = omega (arith, few_records f.records, ap length f.spelled)

    more_few : records_for (length ds) ≤ length more
    more_few = omega (arith, few_records are.records, ap length are.bytes_are, are.are.count)

    after : IsAfter st ds new
    after = (goes st [] ranges (none_done st ranges)).after

    by : (o : Option SnapshotEncoder) → IfSome o (OwesAll f.begun f.body f.tail st) → ((id : ℕ) → is_taken id ds ≡ true → IfSome o (λ d. IsSafe d st.bag id))
        → IfSome o (OwesAll f.begun f.body f.tail new)
    by None owes safe = tt
    by (Some d) owes safe = (owes_after f.begun d f.body st ds new owes.0 owes.1 after safe, omega (arith, owes.1, after.next), owes.2)
