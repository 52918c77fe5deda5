-- Reading a whole state.
use Rattle.std.proofs.Common.{◌≡◌, ◌≢◌, ℕ, ◌^◌, ◌<◌, ◌≤◌, List, [], ◌∷◌, ◌++◌, Result, Ok, Err, length, refl, sym, ap}
use Rattle.std.proofs.Common.{subst, ◌∙◌, append_assoc, append-nil, nat_cmp, arith}
use Rattle.std.specs.Prelude.{IfOk, IfErr}
use Rattle.std.specs.List.{flat_map, AllByRecursion}
use Rattle.std.specs.FinMap.{FinMap, entries, len-entries}
use Rattle.std.proofs.lemmas.List.Elements.{All-from_recursion, recursion_from_All}
use Rattle.linda_tuple.specs.declared.form.Form.{Form}
use Rattle.linda_tuple.specs.Tuple.{Tuple}
use Rattle.linda_wire.specs.declared.limits.TheConstants.{MAX_CLIENTS}
use Rattle.linda_codec.specs.declared.fault.ReadFault.{ReadFault}
use Rattle.linda_codec.specs.Formats.{Format, short_number, number}
use Rattle.linda_codec.specs.Lawful.{IsBytes, IsFormat}
use Rattle.linda_codec.proofs.FormatLaws.{short_number_is, number_is}
use Rattle.linda_codec.proofs.TakeLaws.{ok_is}
use Rattle.linda_book.specs.Entries.{Entry}
use Rattle.linda_wire.specs.declared.limits.TheConstants.{NUMBER_LIMIT}
use Rattle.linda_store_state.specs.State.{State}
use Rattle.linda_journal.proofs.ApartLaws.{format_apart}
use Rattle.linda_snap.specs.declared.reading.SnapshotFault.{SnapshotFault}
use Rattle.linda_snap.specs.declared.reading.SnapshotFault.TheVariants.{NoSnapshot, Memory}
use Rattle.linda_snap.specs.Snapshot as format
use Rattle.linda_snap.specs.Snapshot.{listed, IsSnapshot}
use Rattle.linda_snap.specs.Reading.{IsRun, IsListed, IsPlacedBelow, IsNumbered, IsNoSnapshot, ANY_COUNT}
use Rattle.linda_snap.proofs.RisingLaws.{get_in, all_got}
use Rattle.linda_book.proofs.ReplyFormatLaws.{placed_is}
use Rattle.linda_snap.proofs.SnapshotLaws.{kept_is, listed_is, one_snapshot}

no_value : {A : Type 0} (x : A) (fault : ReadFault) → Ok x ≡ Err fault → ⊥
no_value x fault e = absurd cc

both_read : {A : Type 0} (read : Result (A × List ℕ) ReadFault) (a b : A) (x y : List ℕ) → read ≡ Ok (a, x) → read ≡ Ok (b, y) → (a ≡ b) × (x ≡ y)
both_read {A = A} read a b x y one two =
    let p : A × List ℕ = (a, x) in
    let q : A × List ℕ = (b, y) in
    let same : p ≡ q = ok_is p q (sym one ∙ two) in
    (ap (λ (z : A × List ℕ). z.0) same, ap (λ (z : A × List ℕ). z.1) same)

module _ {X : Type 0} (f : Format (ℕ × X)) (Good : ℕ × X → Type 0) (limit : ℕ) where
  -- A count, and a run of so many.
  pub listed_of : (bytes : List ℕ) (count : ℕ) (behind : List ℕ) (es : List (ℕ × X)) (rest : List ℕ) → IsBytes bytes
      → short_number.read bytes ≡ Ok (count, behind) → count ≤ limit → IsRun f Good count behind es rest → IsListed f Good limit bytes es rest
  listed_of bytes count behind es rest fits told few run =
      let t = short_number_is.takes bytes (count, behind) fits told in
      let same : count ≡ length es = sym run.count_is in
      record {
        parts =
            t.0.parts
            ∙ ap (λ l. short_number.spell count ++ l) run.parts
            ∙ sym (append_assoc (short_number.spell count) (flat_map f.spell es) rest)
            ∙ ap (λ n. (short_number.spell n ++ flat_map f.spell es) ++ rest) same;
        fits = (subst (λ n. n < 2 ^ 32) same t.1, All-from_recursion f.Fits es run.fits);
        few = subst (λ n. n ≤ limit) same few;
        good = run.good;
      }

  -- What is read from bytes that begin with such a list.
  count_of : (bytes : List ℕ) (es : List (ℕ × X)) (rest : List ℕ) → IsListed f Good limit bytes es rest
      → short_number.read bytes ≡ Ok (length es, flat_map f.spell es ++ rest)
  count_of bytes es rest is =
      ap short_number.read (is.parts ∙ append_assoc (short_number.spell (length es)) (flat_map f.spell es) rest)
      ∙ short_number_is.again (length es) (flat_map f.spell es ++ rest) is.fits.0

  pub no_count : (bytes : List ℕ) (fault : ReadFault) (m : FinMap nat_cmp X) (rest : List ℕ)
      → short_number.read bytes ≡ Err fault → IsListed f Good limit bytes (entries m) rest → ⊥
  no_count bytes fault m rest told is =
      no_value (length (entries m), flat_map f.spell (entries m) ++ rest) fault (sym (count_of bytes (entries m) rest is) ∙ told)

  pub run_of : (bytes : List ℕ) (count : ℕ) (behind : List ℕ) (es : List (ℕ × X)) (rest : List ℕ)
      → short_number.read bytes ≡ Ok (count, behind) → IsListed f Good limit bytes es rest → IsRun f Good count behind es rest
  run_of bytes count behind es rest told is =
      let same = both_read (short_number.read bytes) count (length es) behind (flat_map f.spell es ++ rest) told (count_of bytes es rest is) in
      record { parts = same.1; count_is = sym same.0; fits = recursion_from_All f.Fits es is.fits.1; good = is.good }

  pub too_many : (bytes : List ℕ) (count : ℕ) (behind : List ℕ) (m : FinMap nat_cmp X) (rest : List ℕ)
      → short_number.read bytes ≡ Ok (count, behind) → limit < count → IsListed f Good limit bytes (entries m) rest → ⊥
  too_many bytes count behind m rest told many is =
      let same = both_read (short_number.read bytes) count (length (entries m)) behind
      (flat_map f.spell (entries m) ++ rest) told (count_of bytes (entries m) rest is) in
      omega (arith, same.0, many, is.few)

  -- Bytes are one list.
  one_listed : (bytes : List ℕ) (es ds : List (ℕ × X)) (x y : List ℕ) → IsFormat f → IsListed f Good limit bytes es x
      → IsListed f Good limit bytes ds y → (es ≡ ds) × (x ≡ y)
  one_listed bytes es ds x y is one two = format_apart (listed_is is) es ds x y one.fits two.fits (sym one.parts ∙ two.parts)

-- ---- the state

abbrev IsTuples : Form → ℕ → List ℕ → List (ℕ × Tuple) → List ℕ → Type 0
IsTuples form next bytes es rest = IsListed (format.placed form) (IsPlacedBelow next) ANY_COUNT bytes es rest

abbrev IsClients : Form → List ℕ → List (ℕ × Entry) → List ℕ → Type 0
IsClients form bytes es rest = IsListed (format.kept form) IsNumbered MAX_CLIENTS bytes es rest

-- The bytes that were read are a snapshot of the state with these parts.
pub state_there : (form : Form) (bytes behind rest : List ℕ) (next : ℕ) (bag : FinMap nat_cmp Tuple) (book : FinMap nat_cmp Entry) → IsBytes bytes
    → number.read bytes ≡ Ok (next, behind) → 1 ≤ next → next ≤ NUMBER_LIMIT → IsTuples form next behind (entries bag) rest
    → IsClients form rest (entries book) []
    → IsSnapshot form bytes record { bag = bag; book = book; next = next }
state_there form bytes behind rest next bag book fits told low high tuples clients =
    let t = number_is.takes bytes (next, behind) fits told in
    record {
      parts = t.0.parts ∙ ap (λ l. number.spell next ++ l) (tuples.parts
          ∙ ap (λ l. (listed (format.placed form)).spell (entries bag) ++ l) (clients.parts ∙ append-nil ((listed (format.kept form)).spell (entries book))));
      fits = (t.1, (tuples.fits, clients.fits));
      ranges = record {
        next_low = low;
        next_high = high;
        ids = get_in (IsPlacedBelow next) bag tuples.good;
        numbers = get_in IsNumbered book clients.good;
        clients = subst (λ n. n ≤ MAX_CLIENTS) (sym (len-entries book)) clients.few;
      };
    }

-- What is read from the bytes of a snapshot.
next_of : (form : Form) (bytes : List ℕ) (st : State) → IsSnapshot form bytes st
    → number.read bytes ≡ Ok (st.next, (listed (format.placed form)).spell (entries st.bag) ++ (listed (format.kept form)).spell (entries st.book))
next_of form bytes st is = ap number.read is.parts
    ∙ number_is.again st.next ((listed (format.placed form)).spell (entries st.bag) ++ (listed (format.kept form)).spell (entries st.book)) is.fits.0

pub no_next : (form : Form) (bytes : List ℕ) (fault : ReadFault) → number.read bytes ≡ Err fault → IsNoSnapshot form bytes
no_next form bytes fault told st is =
    no_value (st.next, (listed (format.placed form)).spell (entries st.bag) ++ (listed (format.kept form)).spell (entries st.book)) fault
    (sym (next_of form bytes st is) ∙ told)

pub bad_next : (form : Form) (bytes : List ℕ) (next : ℕ) (behind : List ℕ) → number.read bytes ≡ Ok (next, behind)
    → (1 ≤ next → next ≤ NUMBER_LIMIT → ⊥) → IsNoSnapshot form bytes
bad_next form bytes next behind told bad st is =
    let same = both_read (number.read bytes) next st.next behind
    ((listed (format.placed form)).spell (entries st.bag) ++ (listed (format.kept form)).spell (entries st.book)) told (next_of form bytes st is) in
    bad (subst (λ n. 1 ≤ n) (sym same.0) is.ranges.next_low) (subst (λ n. n ≤ NUMBER_LIMIT) (sym same.0) is.ranges.next_high)

tuples_there : (form : Form) (bytes : List ℕ) (next : ℕ) (behind : List ℕ) (st : State) → number.read bytes ≡ Ok (next, behind)
    → IsSnapshot form bytes st → IsTuples form next behind (entries st.bag) ((listed (format.kept form)).spell (entries st.book))
tuples_there form bytes next behind st told is =
    let same = both_read (number.read bytes) next st.next behind
    ((listed (format.placed form)).spell (entries st.bag) ++ (listed (format.kept form)).spell (entries st.book)) told (next_of form bytes st is) in
    record {
      parts = same.1;
      fits = is.fits.1.0;
      few = omega (arith, is.fits.1.0.0);
      good = subst (λ n. AllByRecursion (IsPlacedBelow n) (entries st.bag)) (sym same.0) (all_got (IsPlacedBelow st.next) st.bag is.ranges.ids);
    }

pub no_tuples : (form : Form) (bytes : List ℕ) (next : ℕ) (behind : List ℕ) → number.read bytes ≡ Ok (next, behind)
    → ((m : FinMap nat_cmp Tuple) (rest : List ℕ) → IsTuples form next behind (entries m) rest → ⊥) → IsNoSnapshot form bytes
no_tuples form bytes next behind told none st is =
    none st.bag ((listed (format.kept form)).spell (entries st.book)) (tuples_there form bytes next behind st told is)

clients_there : (form : Form) (bytes : List ℕ) (next : ℕ) (behind rest : List ℕ) (es : List (ℕ × Tuple)) (st : State)
    → number.read bytes ≡ Ok (next, behind) → IsTuples form next behind es rest → IsSnapshot form bytes st → IsClients form rest (entries st.book) []
clients_there form bytes next behind rest es st told tuples is =
    let same = one_listed (format.placed form) (IsPlacedBelow next) ANY_COUNT behind es (entries st.bag) rest
    ((listed (format.kept form)).spell (entries st.book)) (placed_is form) tuples (tuples_there form bytes next behind st told is) in
    record {
      parts = same.1 ∙ sym (append-nil ((listed (format.kept form)).spell (entries st.book)));
      fits = is.fits.1.1;
      few = subst (λ n. n ≤ MAX_CLIENTS) (len-entries st.book) is.ranges.clients;
      good = all_got IsNumbered st.book is.ranges.numbers;
    }

pub no_clients : (form : Form) (bytes : List ℕ) (next : ℕ) (behind rest : List ℕ) (es : List (ℕ × Tuple)) → number.read bytes ≡ Ok (next, behind)
    → IsTuples form next behind es rest → ((m : FinMap nat_cmp Entry) (rest' : List ℕ) → IsClients form rest (entries m) rest' → ⊥) → IsNoSnapshot form bytes
no_clients form bytes next behind rest es told tuples none st is = none st.book [] (clients_there form bytes next behind rest es st told tuples is)

pub bytes_left : (form : Form) (bytes : List ℕ) (next : ℕ) (behind rest left : List ℕ) (es : List (ℕ × Tuple)) (ds : List (ℕ × Entry))
    → number.read bytes ≡ Ok (next, behind) → IsTuples form next behind es rest → IsClients form rest ds left → (left ≡ [] → ⊥) → IsNoSnapshot form bytes
bytes_left form bytes next behind rest left es ds told tuples clients some st is =
    some (one_listed (format.kept form) IsNumbered MAX_CLIENTS rest ds (entries st.book) left []
    (kept_is form) clients (clients_there form bytes next behind rest es st told tuples is)).1

pub none_left : {A : Type 0} (xs : List A) → length xs ≡ 0 → xs ≡ []
none_left [] e = refl
none_left (x ∷ xs) e = absurd (omega (arith, e))

-- ---- no other state

pub only_this : (form : Form) (bytes : List ℕ) (result : Result State SnapshotFault) → IfOk result (IsSnapshot form bytes)
    → IfErr result (λ f. f ≢ Memory → IsNoSnapshot form bytes) → (st : State) → IsSnapshot form bytes st
    → IfOk result (λ s. s ≡ st) × IfErr result (λ f. f ≡ Memory)
only_this form bytes (Ok s) found fault st is = (one_snapshot form bytes s st found is, tt)
only_this form bytes (Err Memory) found fault st is = (tt, refl)
only_this form bytes (Err NoSnapshot) found fault st is = absurd (fault (λ e. absurd cc) st is)
