-- Records: what comes after an open gate, and one reading of a journal.
use Rattle.std.proofs.Common.{◌≡◌, ◌≢◌, ℕ, ◌+◌, ◌<◌, ◌≤◌, List, [], ◌∷◌, ◌++◌, All, length, take, drop, Ok, Err, refl}
use Rattle.std.proofs.Common.{sym, ap, ◌∙◌, append_assoc, length-append, arith}
use Rattle.std.proofs.lemmas.List.Elements.{recursion_from_All}
use Rattle.std.proofs.lemmas.List.{take_at, drop_at, take-append-drop, length-take, length-drop}
use Rattle.linda_codec.specs.Formats.{short_number}
use Rattle.linda_codec.specs.Lawful.{IsBytes}
use Rattle.linda_codec.specs.declared.fault.ReadFault.{ReadFault}
use Rattle.linda_codec.proofs.FormatLaws.{short_number_is}
use Rattle.linda_codec.proofs.TakeLaws.{ok_is}
use Rattle.linda_tuple.specs.declared.form.Form.{Form}
use Rattle.linda_store_state.specs.declared.deed.Deed.{Deed}
use Rattle.linda_journal.specs.declared.kinds.TheConstants.{OPEN}
use Rattle.linda_journal.specs.Records.{spell_deed, FitsDeed, payload, IsRecord, record_body, spell_record, spell_records, IsNoPayload}
use Rattle.linda_journal.specs.Journal.{IsJournal, IsNoRecord, IsDamaged}
use Rattle.linda_journal.proofs.ApartLaws.{IsApart, one_list, Ends, one_reading}
use Rattle.linda_store_state.proofs.DeedFormatLaws.{deed_some}
use Rattle.linda_journal.proofs.SizeLaws.{payload_short}
use Rattle.linda_journal.proofs.PayloadLaws.{deeds_apart}

-- ---- a record that is read

-- Its length was read, and so were deeds that are the payload of that length.
pub record_there : (form : Form) (bytes : List ℕ) (len : ℕ) (rest : List ℕ) (ds : List Deed) → IsBytes bytes
    → short_number.read bytes ≡ Ok (len, rest) → len < length rest → take len rest ≡ payload form ds
    → (bytes ≡ record_body form ds ++ drop len rest) × (0 < length (drop len rest))
record_there form bytes len rest ds fits told room is =
    let t = short_number_is.takes bytes (len, rest) fits told in
    let n : length (take len rest) ≡ length (payload form ds) = ap length is in
    let count : len ≡ length (payload form ds) = omega (arith, n, length-take len rest, room) in
    let split : rest ≡ payload form ds ++ drop len rest = sym (take-append-drop len rest) ∙ ap (λ p. p ++ drop len rest) is in
    let whole : bytes ≡ short_number.spell (length (payload form ds)) ++ (payload form ds ++ drop len rest) =
    t.0.parts ∙ ap (λ r. short_number.spell len ++ r) split ∙ ap (λ k. short_number.spell k ++ (payload form ds ++ drop len rest)) count
    in
    (whole ∙ sym (append_assoc (short_number.spell (length (payload form ds))) (payload form ds) (drop len rest)), omega (arith, length-drop len rest, room))

-- The length that is read of a record that is there.
told_of : (form : Form) (ds : List Deed) (more : List ℕ) → IsRecord form ds
    → short_number.read (record_body form ds ++ more) ≡ Ok (length (payload form ds), payload form ds ++ more)
told_of form ds more is =
    ap short_number.read (append_assoc (short_number.spell (length (payload form ds))) (payload form ds) more)
    ∙ short_number_is.again (length (payload form ds)) (payload form ds ++ more) (payload_short form ds is)

told_is : (form : Form) (bytes : List ℕ) (len : ℕ) (rest : List ℕ) (ds : List Deed) (more : List ℕ) → short_number.read bytes ≡ Ok (len, rest)
    → IsRecord form ds → bytes ≡ record_body form ds ++ more → (len ≡ length (payload form ds)) × (rest ≡ payload form ds ++ more)
told_is form bytes len rest ds more told is e =
    let a : ℕ × List ℕ = (len, rest) in
    let b : ℕ × List ℕ = (length (payload form ds), payload form ds ++ more) in
    let same : a ≡ b = ok_is a b (sym told ∙ ap short_number.read e ∙ told_of form ds more is) in
    (ap (λ (z : ℕ × List ℕ). z.0) same, ap (λ (z : ℕ × List ℕ). z.1) same)

-- ---- what is no record

-- The length is cut short.
pub no_length : (form : Form) (bytes : List ℕ) (fault : ReadFault) → short_number.read bytes ≡ Err fault → IsNoRecord form bytes
no_length form bytes fault bad ds gate more is e =
    let told : short_number.read bytes ≡ Ok (length (payload form ds), payload form ds ++ gate ∷ more) =
    ap short_number.read e ∙ told_of form ds (gate ∷ more) is in
    absurd cc

-- There are too few bytes for the payload and a gate.
pub no_room : (form : Form) (bytes : List ℕ) (len : ℕ) (rest : List ℕ) → short_number.read bytes ≡ Ok (len, rest) → length rest ≤ len → IsNoRecord form bytes
no_room form bytes len rest told short ds gate more is e =
    let same = told_is form bytes len rest ds (gate ∷ more) told is e in
    let n : length rest ≡ length (payload form ds) + length (gate ∷ more) = ap length same.1 ∙ length-append (payload form ds) (gate ∷ more) in
    omega (arith, n, same.0, short)

-- The bytes of that length are no payload.
pub no_payload : (form : Form) (bytes : List ℕ) (len : ℕ) (rest : List ℕ) → short_number.read bytes ≡ Ok (len, rest)
    → IsNoPayload form (take len rest) → IsNoRecord form bytes
no_payload form bytes len rest told none ds gate more is e =
    let same = told_is form bytes len rest ds (gate ∷ more) told is e in
    none ds is (ap (λ n. take n rest) same.0 ∙ ap (take (length (payload form ds))) same.1
    ∙ take_at (payload form ds) (gate ∷ more) (length (payload form ds)) refl)

-- ---- one reading of a journal

behind_same : (a b : ℕ) (xs ys : List ℕ) → a ∷ xs ≡ b ∷ ys → (a ≡ b) × (xs ≡ ys)
behind_same a b xs ys e = (cc, cc)

records_apart : (form : Form) → IsApart (spell_record form) (IsRecord form)
records_apart form ds es x y is_d is_e e =
    let bodies = behind_same OPEN OPEN (record_body form ds ++ x) (record_body form es ++ y) e in
    let same = told_is form (record_body form ds ++ x) (length (payload form ds)) (payload form ds ++ x) es y (told_of form ds x is_d) is_e bodies.1 in
    let n : length (payload form ds) ≡ length (payload form es) = same.0 in
    let whole : payload form ds ≡ payload form es =
    sym (take_at (payload form ds) x (length (payload form ds)) refl) ∙ ap (take (length (payload form ds))) same.1
    ∙ take_at (payload form es) y (length (payload form ds)) (sym n)
    in
    let rest : x ≡ y = sym (drop_at (payload form ds) x (length (payload form ds)) refl)
    ∙ ap (drop (length (payload form ds))) same.1 ∙ drop_at (payload form es) y (length (payload form ds)) (sym n) in (
      one_list (spell_deed form) (FitsDeed form) (deeds_apart form) (deed_some form) ds es
          (recursion_from_All (FitsDeed form) ds is_d.fits) (recursion_from_All (FitsDeed form) es is_e.fits) whole,
      rest,
    )

closed_ends : (form : Form) (gate : ℕ) (rest : List ℕ) → gate ≢ OPEN → Ends (spell_record form) (IsRecord form) (gate ∷ rest)
closed_ends form gate rest closed =
    record { some = omega arith; stop = λ ds more is e some. closed ((behind_same gate OPEN rest (record_body form ds ++ more) e).0) }

damage_ends : (form : Form) (behind : List ℕ) → IsNoRecord form behind → Ends (spell_record form) (IsRecord form) (OPEN ∷ behind)
damage_ends form behind bad =
    record { some = omega arith; stop = λ ds more is e some. by ds more is ((behind_same OPEN OPEN behind (record_body form ds ++ more) e).1) some }
  where
    by : (ds : List Deed) (more : List ℕ) → IsRecord form ds → behind ≡ record_body form ds ++ more → 0 < length more → ⊥
    by ds [] is e some = absurd (omega (arith, some))
    by ds (gate ∷ more) is e some = bad ds gate more is e

alike : (form : Form) (bytes : List ℕ) (xs ys : List (List Deed)) (u v : List ℕ) → All (IsRecord form) xs → All (IsRecord form) ys
    → Ends (spell_record form) (IsRecord form) u → Ends (spell_record form) (IsRecord form) v
    → bytes ≡ spell_records form xs ++ u → bytes ≡ spell_records form ys ++ v → (xs ≡ ys) × (u ≡ v)
alike form bytes xs ys u v good_x good_y end_u end_v is_x is_y =
    one_reading (spell_record form) (IsRecord form) (records_apart form) xs ys u v
    (recursion_from_All (IsRecord form) xs good_x) (recursion_from_All (IsRecord form) ys good_y) end_u end_v (sym is_x ∙ is_y)

-- Bytes are one journal,
pub one_journal : (form : Form) (bytes : List ℕ) (xs ys : List (List Deed)) → IsJournal form bytes xs → IsJournal form bytes ys → xs ≡ ys
one_journal form bytes xs ys j k =
    (alike form bytes xs ys (j.gate ∷ j.rest) (k.gate ∷ k.rest) j.good k.good (closed_ends form j.gate j.rest j.closed)
    (closed_ends form k.gate k.rest k.closed) j.parts k.parts).0

-- or are damaged at one place,
pub one_place : (form : Form) (bytes : List ℕ) (p q : ℕ) → IsDamaged form bytes p → IsDamaged form bytes q → p ≡ q
one_place form bytes p q j k =
    let same = alike form bytes j.records k.records (OPEN ∷ j.behind) (OPEN ∷ k.behind) j.good k.good
    (damage_ends form j.behind j.bad) (damage_ends form k.behind k.bad) j.parts k.parts in
    sym j.place_is ∙ ap (λ rs. length (spell_records form rs)) same.0 ∙ k.place_is

-- and never both.
pub not_both : (form : Form) (bytes : List ℕ) (xs : List (List Deed)) (p : ℕ) → IsJournal form bytes xs → IsDamaged form bytes p → ⊥
not_both form bytes xs p j k =
    let same = alike form bytes xs k.records (j.gate ∷ j.rest) (OPEN ∷ k.behind) j.good k.good
    (closed_ends form j.gate j.rest j.closed) (damage_ends form k.behind k.bad) j.parts k.parts in
    j.closed ((behind_same j.gate OPEN j.rest k.behind same.1).0)
