-- Banks as bytes: what they begin with, their parts, and that bytes are one bank.
use Rattle.std.proofs.Common.{◌≡◌, ◌≢◌, ℕ, ◌+◌, ◌-◌, ◌^◌, ◌<◌, ◌≤◌, ◌⊎◌, inl, inr, List, [], ◌∷◌, ◌++◌, length, take}
use Rattle.std.proofs.Common.{drop, Ok, refl, sym, ap, subst, ◌∙◌, arith}
use Rattle.std.proofs.lemmas.List.{take-append-drop, length-take, length-drop, drop-drop, take_at, drop_at, length-append, length-map}
use Rattle.linda_codec.specs.Formats.{short_number, number}
use Rattle.linda_codec.specs.Lawful.{IsBytes}
use Rattle.linda_codec.proofs.FormatLaws.{short_number_is, number_is}
use Rattle.linda_codec.proofs.TakeLaws.{IsBytes-drop}
use Rattle.linda_tuple.specs.declared.form.Form.{Form}
use Rattle.linda_tuple.specs.declared.form.Form.TheVariants.{One, Two}
use Rattle.linda_store_state.specs.declared.deed.Deed.{Deed}
use Rattle.linda_journal.specs.declared.kinds.TheConstants.{OPEN}
use Rattle.linda_journal.specs.declared.limits.TheConstants.{LENGTH_PLACE, MIN_BYTES}
use Rattle.linda_journal.specs.declared.heading.Heading.TheVariants as headings
use Rattle.linda_journal.specs.declared.fault.BankFault.{BankFault}
use Rattle.linda_journal.specs.declared.fault.BankFault.TheVariants as faults
use Rattle.linda_journal.specs.Journal.{IsJournal, IsDamaged, deeds_of}
use Rattle.linda_disk.specs.View.{View, IsDurable}
use Rattle.linda_journal.specs.declared.record.Record.{Record}
use Rattle.linda_journal.specs.Records.{spell_record, spell_records}
use Rattle.linda_journal.specs.Bank.{digit, magic, IsCandidate, headed, head, IsBank, IsSettled}
use Rattle.linda_journal.specs.Heading.{IsHeading}
use Rattle.linda_journal.specs.Image.{IsBroken, IsFaultOfBank}
use Rattle.linda_journal.proofs.ApartLaws.{format_apart}
use Rattle.linda_journal.proofs.RecordLaws.{one_journal, not_both}

-- The offset of the generation: a gate and the letters are before it.
abbrev generation_place : ℕ
generation_place = 5

-- A generation that was read after the letters.
pub bank_heading : (form : Form) (file behind rest : List ℕ) (g : ℕ) (after : List ℕ) → IsBytes file → file ≡ OPEN ∷ behind
    → behind ≡ magic form ++ rest → number.read rest ≡ Ok (g, after) → MIN_BYTES ≤ length file → (g ≡ 0 → ⊥) → IsHeading file (headings.Bank form g)
bank_heading form file behind rest g after fits one letters told long some =
    let whole : file ≡ OPEN ∷ magic form ++ rest = one ∙ ap (λ (l : List ℕ). OPEN ∷ l) letters in
    let back : drop generation_place file ≡ rest = ap (drop generation_place) whole in
    let t = number_is.takes rest (g, after) (subst IsBytes back (IsBytes-drop generation_place file fits)) told in
    (omega (arith, some), t.1, long, (after, whole ∙ ap (λ (l : List ℕ). OPEN ∷ magic form ++ l) t.0.parts))

-- The parts of a bank whose body is there, with bytes after it.
pub record AreParts (form : Form) (file : List ℕ) (g len : ℕ) : Type 0 where
  pub body : List ℕ
  pub rest : List ℕ
  pub parts : file ≡ head form g body ++ rest
  pub told : take (MIN_BYTES + len - MIN_BYTES) (drop MIN_BYTES file) ≡ body
  pub journal : drop (MIN_BYTES + len) file ≡ rest
  pub place : length (head form g body) ≡ MIN_BYTES + len
  pub short : length body < 2 ^ 32

pub parts_of : (form : Form) (file rest : List ℕ) (g len : ℕ) (behind : List ℕ) → IsBytes file → file ≡ headed form g rest
    → short_number.read (drop LENGTH_PLACE file) ≡ Ok (len, behind) → len < length behind → AreParts form file g len
parts_of form file rest g len behind fits heading told room =
    let body : List ℕ = take len behind in
    let t = short_number_is.takes (drop LENGTH_PLACE file) (len, behind) (IsBytes-drop LENGTH_PLACE file fits) told in
    let from_length : drop LENGTH_PLACE file ≡ rest = ap (drop LENGTH_PLACE) heading in
    let field : rest ≡ short_number.spell len ++ behind = sym from_length ∙ t.0.parts in
    let count : length body ≡ len = omega (arith, length-take len behind, room) in
    let split : behind ≡ body ++ drop len behind = sym (take-append-drop len behind) in
    let whole : file ≡ headed form g (short_number.spell len ++ behind) = heading ∙ ap (headed form g) field in
    let there : file ≡ headed form g (short_number.spell (length body) ++ (body ++ drop len behind)) =
    whole
    ∙ ap (λ l. headed form g (short_number.spell len ++ l)) split
    ∙ ap (λ n. headed form g (short_number.spell n ++ (body ++ drop len behind))) (sym count)
    in
    let from_body : drop MIN_BYTES file ≡ behind = ap (drop MIN_BYTES) whole in
    record {
      body = body;
      rest = drop len behind;
      parts = there;
      told = ap (λ n. take n (drop MIN_BYTES file)) (plain len) ∙ ap (take len) from_body;
      journal = sym (drop-drop len MIN_BYTES file) ∙ ap (drop len) from_body;
      place = omega (arith, count);
      short = omega (arith, count, t.1);
    }
  where
    plain : (n : ℕ) → MIN_BYTES + n - MIN_BYTES ≡ n
    plain n = omega arith

pub bank_there : (form : Form) (file rest : List ℕ) (g len : ℕ) (behind : List ℕ) (records : List (List Deed)) → IsBytes file → 1 ≤ g → g < 2 ^ 64
    → file ≡ headed form g rest → short_number.read (drop LENGTH_PLACE file) ≡ Ok (len, behind)
    → len < length behind → IsJournal form (drop (MIN_BYTES + len) file) records
    → IsBank form file g (take (MIN_BYTES + len - MIN_BYTES) (drop MIN_BYTES file)) records
bank_there form file rest g len behind records fits low high heading told room journal =
    let p = parts_of form file rest g len behind fits heading told room in
    subst (λ b. IsBank form file g b records) (sym p.told)
    (record { low = low; fits = high; short = p.short; rest = p.rest; parts = p.parts; journal = subst (λ l. IsJournal form l records) p.journal journal })

pub broken_there : (form : Form) (file rest : List ℕ) (g len : ℕ) (behind : List ℕ) (offset place : ℕ) → IsBytes file → 1 ≤ g → g < 2 ^ 64
    → file ≡ headed form g rest → short_number.read (drop LENGTH_PLACE file) ≡ Ok (len, behind)
    → len < length behind → offset ≡ MIN_BYTES + len + place → IsDamaged form (drop (MIN_BYTES + len) file) place
    → IsFaultOfBank file (faults.Damaged offset)
broken_there form file rest g len behind offset place fits low high heading told room offset_is damaged =
    let p = parts_of form file rest g len behind fits heading told room in
    inr (inr record {
      form = form;
      generation = g;
      body = p.body;
      rest = p.rest;
      place = place;
      low = low;
      fits = high;
      short = p.short;
      parts = p.parts;
      damaged = subst (λ l. IsDamaged form l place) p.journal damaged;
      offset_is = offset_is ∙ ap (λ n. n + place) (sym p.place);
    })

-- ---- one reading

firsts_same : (a b : ℕ) (x y : List ℕ) → a ∷ x ≡ b ∷ y → a ≡ b
firsts_same a b x y e = cc

-- If the letters of two banks are the same, so are their forms.
pub digits_apart : (f k : Form) (x y : List ℕ) → digit f ∷ x ≡ digit k ∷ y → f ≡ k
digits_apart One One x y e = refl
digits_apart Two Two x y e = refl
digits_apart One Two x y e = let n : 49 ≡ 50 = firsts_same 49 50 x y e in absurd (omega (arith, n))
digits_apart Two One x y e = let n : 50 ≡ 49 = firsts_same 50 49 x y e in absurd (omega (arith, n))

-- No bank's head begins another's.
pub heads_apart : (f k : Form) (g h : ℕ) (b c x y : List ℕ) → g < 2 ^ 64 → h < 2 ^ 64 → length b < 2 ^ 32
    → length c < 2 ^ 32 → head f g b ++ x ≡ head k h c ++ y → (f ≡ k) × (g ≡ h) × (b ≡ c) × (x ≡ y)
heads_apart f k g h b c x y fits_g fits_h fits_b fits_c e =
    let behind_g : List ℕ = short_number.spell (length b) ++ (b ++ x) in
    let behind_h : List ℕ = short_number.spell (length c) ++ (c ++ y) in
    let forms : f ≡ k = digits_apart f k (number.spell g ++ behind_g) (number.spell h ++ behind_h) (ap (drop 4) e) in
    let generations = format_apart number_is g h behind_g behind_h fits_g fits_h (ap (drop generation_place) e) in
    let lengths = format_apart short_number_is (length b) (length c) (b ++ x) (c ++ y) fits_b fits_c generations.1 in
    let n : length b ≡ length c = lengths.0 in (
      forms,
      generations.0,
      sym (take_at b x (length b) refl) ∙ ap (take (length b)) lengths.1 ∙ take_at c y (length b) (sym n),
      sym (drop_at b x (length b) refl) ∙ ap (drop (length b)) lengths.1 ∙ drop_at c y (length b) (sym n),
    )

-- The same journal, after a head that is the same.
same_journal : (f k : Form) (x y : List ℕ) (rs : List (List Deed)) → f ≡ k → x ≡ y → IsJournal f x rs → IsJournal k y rs
same_journal f k x y rs forms same journal = subst (λ z. IsJournal z y rs) forms (subst (λ l. IsJournal f l rs) same journal)

-- Bytes are one bank,
pub one_bank : (file : List ℕ) (f k : Form) (g h : ℕ) (b c : List ℕ) (rs qs : List (List Deed))
    → IsBank f file g b rs → IsBank k file h c qs → (f ≡ k) × (g ≡ h) × (b ≡ c) × (rs ≡ qs)
one_bank file f k g h b c rs qs one two =
    let same = heads_apart f k g h b c one.rest two.rest one.fits two.fits one.short two.short (sym one.parts ∙ two.parts) in
    (same.0, same.1, same.2, one_journal k two.rest rs qs (same_journal f k one.rest two.rest rs same.0 same.3 one.journal) two.journal)

-- or broken, and never both.
pub not_broken : (form : Form) (file : List ℕ) (g : ℕ) (b : List ℕ) (rs : List (List Deed)) (offset : ℕ) → IsBank form file g b rs → IsBroken file offset → ⊥
not_broken form file g b rs offset one two =
    let same = heads_apart form two.form g two.generation b two.body one.rest two.rest one.fits two.fits one.short two.short (sym one.parts ∙ two.parts) in
    not_both two.form two.rest rs two.place (same_journal form two.form one.rest two.rest rs same.0 same.3 one.journal) two.damaged

-- A bank begins as one.
pub is_candidate : (form : Form) (file : List ℕ) (g : ℕ) (b : List ℕ) (rs : List (List Deed)) → IsBank form file g b rs → IsCandidate file
is_candidate form file g b rs bank =
    let n : length file ≡ length (head form g b ++ bank.rest) = ap length bank.parts in
    (omega (arith, n), (_, bank.parts))

-- The only faults that are reported of a bank that is there: the device failed, or memory ran out.
pub only_faults : (form : Form) (file : List ℕ) (g : ℕ) (b : List ℕ) (rs : List (List Deed)) (f : BankFault)
    → IsBank form file g b rs → (f ≢ faults.Disk → IsFaultOfBank file f) → (f ≡ faults.Disk) ⊎ (f ≡ faults.Memory)
only_faults form file g b rs faults.Disk bank told = inl refl
only_faults form file g b rs faults.Memory bank told = inr refl
only_faults form file g b rs faults.Spent bank told = absurd (told (λ e. absurd cc))
only_faults form file g b rs faults.Full bank told = absurd (told (λ e. absurd cc))
only_faults form file g b rs faults.NoBank bank told = absurd (told (λ e. absurd cc) (is_candidate form file g b rs bank))
only_faults form file g b rs (faults.Damaged offset) bank told =
    by (told (λ e. absurd cc))
  where
    by : IsFaultOfBank file (faults.Damaged offset) → (faults.Damaged offset ≡ faults.Disk) ⊎ (faults.Damaged offset ≡ faults.Memory)
    by (inl foreign) = absurd (foreign.0.1 form g (short_number.spell (length b) ++ b ++ bank.rest) bank.low bank.fits (bank.parts))
    by (inr (inl cut)) =
        let journal = bank.journal in
        let n : length bank.rest ≡ length (spell_records form rs ++ journal.gate ∷ journal.rest) = ap length journal.parts in
        absurd (cut.0.never form g b bank.rest bank.short (omega (arith, n, length-append (spell_records form rs) (journal.gate ∷ journal.rest))) bank.parts)
    by (inr (inr broken)) = absurd (not_broken form file g b rs offset bank broken)

-- ---- a bank that was read from its disk

record_some : (form : Form) (rs : List (List Deed)) → length rs ≤ length (spell_records form rs)
record_some form [] = omega arith
record_some form (ds ∷ rs) = omega (arith, record_some form rs, length-append (spell_record form ds) (spell_records form rs))

-- There are no more records than bytes before the end.
pub counted : (form : Form) (rs : List Record) (at end : ℕ) → end ≡ at + length (spell_records form (deeds_of rs)) → length rs ≤ end
counted form rs at end e = omega (arith, e, record_some form (deeds_of rs), length-map rs (λ (r : Record). r.deeds.items))

-- The end is within the file.
pub end_within : (form : Form) (g : ℕ) (body : List ℕ) (rs : List (List Deed)) (end : ℕ) (v : View) → IsSettled form g body rs end v → end < length v.seen
end_within form g body rs end v settled =
    let journal = settled.file.journal in
    let n : length v.seen ≡ length (head form g body ++ settled.file.rest) = ap length settled.file.parts in
    let m : length settled.file.rest ≡ length (spell_records form rs ++ journal.gate ∷ journal.rest) = ap length journal.parts in
    omega (arith, n, m, settled.place, length-append (head form g body) settled.file.rest, length-append (spell_records form rs) (journal.gate ∷ journal.rest))

-- What was read of it.
pub settled_there : (form : Form) (bytes : List ℕ) (g at end : ℕ) (rs : List (List Deed)) (v : View)
    → IsBank form bytes g (take (at - MIN_BYTES) (drop MIN_BYTES bytes)) rs → MIN_BYTES ≤ at
    → at < length bytes → end ≡ at + length (spell_records form rs) → v.seen ≡ bytes → IsDurable v
    → IsSettled form g (take (at - MIN_BYTES) (drop MIN_BYTES bytes)) rs end v
settled_there form bytes g at end rs v bank low room end_is same durable = record {
  file = subst (λ f. IsBank form f g (take (at - MIN_BYTES) (drop MIN_BYTES bytes)) rs) (sym same) bank;
  place = omega (arith, low, room, end_is, length-take (at - MIN_BYTES) (drop MIN_BYTES bytes), length-drop MIN_BYTES bytes);
  durable = durable;
}
