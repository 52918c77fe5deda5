-- Which of two banks is chosen, and that bytes are one choice.
use Rattle.std.proofs.Common.{◌≡◌, ◌≢◌, ℕ, ◌<◌, ◌≤◌, ◌⊎◌, inl, inr, Bool, true, false, ltb, cond, List, ◌++◌, Result}
use Rattle.std.proofs.Common.{Ok, Err, length, take, drop, refl, sym, ap, subst, ◌∙◌, eq-eqb, ne_eqb, arith}
use Rattle.std.proofs.lemmas.Bool.{cases_lt, lt-ltb, le-ltb}
use Rattle.std.proofs.lemmas.List.{take-append-drop, length-take, length-map}
use Rattle.linda_tuple.specs.declared.form.Form.{Form}
use Rattle.linda_journal.specs.declared.heading.Heading.{Heading}
use Rattle.linda_journal.specs.declared.heading.Heading.TheVariants.{NoBank, Foreign, Bank}
use Rattle.linda_journal.specs.Heading.{IsHeading}
use Rattle.linda_codec.specs.Formats.{number}
use Rattle.linda_codec.proofs.FormatLaws.{number_is}
use Rattle.linda_store_state.specs.declared.deed.Deed.{Deed}
use Rattle.linda_store_state.specs.State.{State}
use Rattle.linda_store_state.specs.After.{IsAfter}
use Rattle.linda_store_state.specs.Proper.{IsProper}
use Rattle.linda_store_state.proofs.AfterLaws.{one_after}
use Rattle.linda_disk.specs.View.{View, IsDurable, IsTimed}
use Rattle.linda_disk.proofs.RunLaws.{joined as one_run, leaves_now}
use Rattle.linda_journal.specs.declared.record.Record.{Record}
use Rattle.linda_journal.specs.declared.fault.BankFault.{BankFault}
use Rattle.linda_journal.specs.declared.fault.BankFault.TheVariants as banks
use Rattle.linda_journal.specs.Journal.{deeds_of}
use Rattle.linda_journal.specs.Bank.{IsCandidate, IsBank, IsSettled}
use Rattle.linda_journal.specs.Image.{IsFaultOfBank}
use Rattle.linda_journal.proofs.ApartLaws.{format_apart}
use Rattle.linda_journal.proofs.ImageLaws.{digits_apart, is_candidate, one_bank, only_faults}
use Rattle.linda_snap.specs.declared.replay.ReplayFault.{ReplayFault}
use Rattle.linda_snap.specs.declared.replay.ReplayFault.TheVariants as replays
use Rattle.linda_snap.specs.declared.choice.ChoiceFault.{ChoiceFault}
use Rattle.linda_snap.specs.declared.choice.ChoiceFault.TheVariants.{NoStore, Damaged, Disk, Memory}
use Rattle.linda_snap.specs.Snapshot.{spell_state, IsSnapshot}
use Rattle.linda_snap.specs.Replay.{joined, IsReplayFault}
use Rattle.linda_snap.specs.Stands.{deeds_in, StandsOn, IsLesser, IsInUse, Stands, IsStored, IsCounted, IsUp}
use Rattle.linda_snap.specs.Choice.{choice, IsChoice, IsRecovered, IsUnrecovered, IsFaultOfFile, IsFaultOfBoth}
use Rattle.linda_snap.specs.Choice.{LeavesNothingNew, chosen, fault_on, fault_of_replay}
use Rattle.linda_snap.proofs.SnapshotLaws.{one_snapshot}
use Rattle.linda_snap.proofs.ReplayLaws.{none_improper}
use Rattle.linda_snap.proofs.StandsLaws.{heading_of, stands_on}

-- What the first bytes of a file begin with, the file begins with.
pub heading_of_front : (file : List ℕ) (h : Heading) → 17 ≤ length file → IsHeading (take 17 file) h → IsHeading file h
heading_of_front file NoBank long is = λ candidate. is (omega (arith, long, length-take 17 file), (take 16 candidate.1.0, ap (take 17) candidate.1.1))
heading_of_front file Foreign long is =
    let split : take 17 file ++ drop 17 file ≡ file = take-append-drop 17 file in (
      (long, (is.0.1.0 ++ drop 17 file, sym split ∙ ap (λ l. l ++ drop 17 file) is.0.1.1)),
      λ form generation rest low high starts. is.1 form generation (take 4 rest) low high (ap (take 17) starts),
    )
heading_of_front file (Bank form generation) long is =
    let split : take 17 file ++ drop 17 file ≡ file = take-append-drop 17 file in
    (is.0, is.1, long, (is.3.0 ++ drop 17 file, sym split ∙ ap (λ l. l ++ drop 17 file) is.3.1))

-- ---- one bank

pub unrecovered : (form : Form) (body : List ℕ) (records : List Record) (opening : State) (fault : ReplayFault)
    → IsSnapshot form body opening → IsReplayFault opening records fault → IsUnrecovered form body records (fault_of_replay fault)
unrecovered form body records opening replays.Memory snapshot told = tt
unrecovered form body records opening (replays.Improper gate) snapshot told = inr (opening, snapshot, told)

pub stored_there : (form : Form) (generation end : ℕ) (body : List ℕ) (records : List Record) (v : View) (st : State)
    → IsSettled form generation body (deeds_of records) end v → IsRecovered form body records st → IsStored form generation end v st
stored_there form generation end body records v st settled recovered = record {
  opening = recovered.opening;
  ranges = recovered.snapshot.ranges;
  fits = recovered.snapshot.fits;
  records = deeds_of records;
  settled = subst (λ b. IsSettled form generation b (deeds_of records) end v) recovered.snapshot.parts settled;
  done = recovered.done;
}

-- It counts the records that were read.
pub counted_there : (form : Form) (generation end : ℕ) (body : List ℕ) (records : List Record) (count : ℕ) (v : View) (st : State)
    → IsSettled form generation body (deeds_of records) end v → IsRecovered form body records st
    → count ≡ length records → IsCounted form generation end count v st
unfolding stored_there
counted_there form generation end body records count v st settled recovered is = record {
  stored = stored_there form generation end body records v st settled recovered;
  count_is = is ∙ sym (length-map records (λ (r : Record). r.deeds.items));
}

pub fault_there : (form : Form) (file : List ℕ) (generation : ℕ) (body : List ℕ) (records : List Record) (fault : BankFault)
    → IsBank form file generation body (deeds_of records) → IsUnrecovered form body records fault → IsFaultOfFile file fault
fault_there form file generation body records (banks.Damaged offset) bank (inl none) =
    inr (inl (record { form = form; generation = generation; body = body; records = records; bank = bank; none = none.0 }, none.1))
fault_there form file generation body records (banks.Damaged offset) bank (inr one) =
    inr (inr record { form = form; generation = generation; body = body; opening = one.0; records = records; bank = bank; snapshot = one.1; improper = one.2 })
fault_there form file generation body records banks.NoBank bank told = absurd told
fault_there form file generation body records banks.Memory bank told = tt
fault_there form file generation body records banks.Spent bank told = told
fault_there form file generation body records banks.Full bank told = told
fault_there form file generation body records banks.Disk bank told = told

-- A fault of a bank by itself is a fault of its file.
pub fault_of_bank : (file : List ℕ) (fault : BankFault) → IsFaultOfBank file fault → IsFaultOfFile file fault
fault_of_bank file (banks.Damaged offset) told = inl told
fault_of_bank file banks.NoBank told = told
fault_of_bank file banks.Memory told = tt
fault_of_bank file banks.Spent told = told
fault_of_bank file banks.Full told = told
fault_of_bank file banks.Disk told = told

same_body : (file : List ℕ) (f k : Form) (g h : ℕ) (b c : List ℕ) (rs qs : List (List Deed))
    → IsBank f file g b rs → IsBank k file h c qs → (f ≡ k) × (b ≡ c) × (rs ≡ qs)
same_body file f k g h b c rs qs one two = let same = one_bank file f k g h b c rs qs one two in (same.0, same.2, same.3)

snapshot_of : (file : List ℕ) (generation : ℕ) (st : State) (on : StandsOn file generation st) → IsSnapshot on.form (spell_state on.form on.opening) on.opening
snapshot_of file generation st on = record { parts = refl; fits = on.fits; ranges = on.ranges }

-- Two snapshots of one form whose bytes are the same are of one state.
same_opening : (f k : Form) (body other : List ℕ) (a b : State) → f ≡ k → body ≡ other → IsSnapshot f body a → IsSnapshot k other b → a ≡ b
same_opening f k body other a b form same one two =
    one_snapshot k other a b (subst (λ l. IsSnapshot k l a) same (subst (λ x. IsSnapshot x body a) form one)) two

-- A bank represents at most one state.
one_state : (file : List ℕ) (g h : ℕ) (a b : State) → StandsOn file g a → StandsOn file h b → a ≡ b
one_state file g h a b one two =
    let same = same_body file one.form two.form g h (spell_state one.form one.opening)
    (spell_state two.form two.opening) one.records two.records one.bank two.bank in
    let opening : one.opening ≡ two.opening =
    same_opening one.form two.form (spell_state one.form one.opening) (spell_state two.form two.opening)
    one.opening two.opening same.0 same.1 (snapshot_of file g a one) (snapshot_of file h b two) in
    let after = subst (λ (st : State). IsAfter st (deeds_in two.records) a) opening (subst (λ rs. IsAfter one.opening (deeds_in rs) a) same.2 one.done.after) in
    one_after two.opening (deeds_in two.records) a b after two.done.after

-- A bank that represents a state is not damaged.
never_fault : (file : List ℕ) (generation : ℕ) (st : State) (offset : ℕ) → StandsOn file generation st → IsFaultOfFile file (banks.Damaged offset) → ⊥
never_fault file generation st offset on (inl told) =
    by (only_faults on.form file generation (spell_state on.form on.opening) on.records (banks.Damaged offset) on.bank (λ other. told))
  where
    by : (banks.Damaged offset ≡ banks.Disk) ⊎ (banks.Damaged offset ≡ banks.Memory) → ⊥
    by (inl e) = absurd cc
    by (inr e) = absurd cc
never_fault file generation st offset on (inr (inl none)) =
    let has = none.0 in
    let same = same_body file on.form has.form generation has.generation (spell_state on.form on.opening) has.body on.records
    (deeds_of has.records) on.bank has.bank in
    has.none on.opening (subst (λ l. IsSnapshot has.form l on.opening) same.1
    (subst (λ x. IsSnapshot x (spell_state on.form on.opening) on.opening) same.0 (snapshot_of file generation st on)))
never_fault file generation st offset on (inr (inr has)) =
    let same = same_body file on.form has.form generation has.generation (spell_state on.form on.opening) has.body on.records
    (deeds_of has.records) on.bank has.bank in
    let opening : on.opening ≡ has.opening =
    same_opening on.form has.form (spell_state on.form on.opening) has.body on.opening has.opening same.0 same.1
    (snapshot_of file generation st on) has.snapshot in
    none_improper has.opening has.records offset has.improper
    (subst (λ (s : State). IsProper s (joined has.records)) opening (subst (λ rs. IsProper on.opening (deeds_in rs)) same.2 on.done.proper))

-- ---- two banks

opens : (file : List ℕ) (form : Form) (generation : ℕ) → IsHeading file (Bank form generation) → IsCandidate file
opens file form generation is = (is.2, (_, is.3.1))

one_heading : (file : List ℕ) (a b : Heading) → IsHeading file a → IsHeading file b → a ≡ b
one_heading file NoBank NoBank one two = refl
one_heading file NoBank Foreign one two = absurd (one two.0)
one_heading file NoBank (Bank f g) one two = absurd (one (opens file f g two))
one_heading file Foreign NoBank one two = absurd (two one.0)
one_heading file Foreign Foreign one two = refl
one_heading file Foreign (Bank f g) one two = absurd (one.1 f g two.3.0 two.0 two.1 two.3.1)
one_heading file (Bank f g) NoBank one two = absurd (two (opens file f g one))
one_heading file (Bank f g) Foreign one two = absurd (two.1 f g one.3.0 one.0 one.1 one.3.1)
one_heading file (Bank f g) (Bank k h) one two =
    let whole = sym one.3.1 ∙ two.3.1 in
    let forms : f ≡ k = digits_apart f k (number.spell g ++ one.3.0) (number.spell h ++ two.3.0) (ap (drop 4) whole) in
    let generations : g ≡ h = (format_apart number_is g h one.3.0 two.3.0 one.1 two.1 (ap (drop 5) whole)).0 in
    ap (λ x. Bank x g) forms ∙ ap (λ n. Bank k n) generations

one_choice : (left right : List ℕ) (a b : Result Bool ChoiceFault) → IsChoice left right a → IsChoice left right b → a ≡ b
one_choice left right a b one two =
    let l = one_heading left one.left_heading two.left_heading one.left_is two.left_is in
    let r = one_heading right one.right_heading two.right_heading one.right_is two.right_is in
    sym one.told_is ∙ ap (λ h. choice h one.right_heading) l ∙ ap (choice two.left_heading) r ∙ two.told_is

greater_left : (f k : Form) (a b : ℕ) → b < a → choice (Bank f a) (Bank k b) ≡ Ok false
greater_left f k a b lt =
    ap (λ t. cond t (Err (Damaged false 5)) (cond (ltb b a) (Ok false) (Ok true))) (ne_eqb a b (λ same. omega (arith, same, lt)))
    ∙ ap (λ t. cond t (Ok false) (Ok true)) (lt-ltb b a lt)

greater_right : (f k : Form) (a b : ℕ) → a < b → choice (Bank f a) (Bank k b) ≡ Ok true
greater_right f k a b lt =
    ap (λ t. cond t (Err (Damaged false 5)) (cond (ltb b a) (Ok false) (Ok true))) (ne_eqb a b (λ same. omega (arith, same, lt)))
    ∙ ap (λ t. cond t (Ok false) (Ok true)) (le-ltb b a (omega (arith, lt)))

on_left : (left right : List ℕ) (st : State) → IsInUse left right st → IsChoice left right (Ok false)
on_left left right st used = by used.lesser
  where
    here : IsHeading left (Bank used.stands.form used.generation)
    here = heading_of used.stands.form left used.generation (spell_state used.stands.form used.stands.opening) used.stands.records used.stands.bank

    by : IsLesser used.generation right → IsChoice left right (Ok false)
    by (inl none) = record { left_heading = Bank used.stands.form used.generation; right_heading = NoBank; left_is = here; right_is = none; told_is = refl }
    by (inr (form, lesser, is, lt)) = record {
      left_heading = Bank used.stands.form used.generation;
      right_heading =
          Bank form lesser;
      left_is = here;
      right_is = is;
      told_is = greater_left used.stands.form form used.generation lesser lt;
    }

on_right : (left right : List ℕ) (st : State) → IsInUse right left st → IsChoice left right (Ok true)
on_right left right st used = by used.lesser
  where
    here : IsHeading right (Bank used.stands.form used.generation)
    here = heading_of used.stands.form right used.generation (spell_state used.stands.form used.stands.opening) used.stands.records used.stands.bank

    by : IsLesser used.generation left → IsChoice left right (Ok true)
    by (inl none) = record { left_heading = NoBank; right_heading = Bank used.stands.form used.generation; left_is = none; right_is = here; told_is = refl }
    by (inr (form, lesser, is, lt)) = record {
      left_heading = Bank form lesser;
      right_heading = Bank used.stands.form used.generation;
      left_is = is;
      right_is = here;
      told_is = greater_right form used.stands.form lesser used.generation lt;
    }

abbrev on_side : Bool → Result Bool ChoiceFault
on_side right = Ok right

sides_differ : on_side false ≡ on_side true → ⊥
sides_differ e = absurd cc

-- Two banks represent at most one state.
pub one_stands : (left right : List ℕ) (a b : State) → Stands left right a → Stands left right b → a ≡ b
one_stands left right a b (inl one) (inl two) = one_state left one.generation two.generation a b one.stands two.stands
one_stands left right a b (inr one) (inr two) = one_state right one.generation two.generation a b one.stands two.stands
one_stands left right a b (inl one) (inr two) =
    absurd (sides_differ (one_choice left right (Ok false) (Ok true) (on_left left right a one) (on_right left right b two)))
one_stands left right a b (inr one) (inl two) =
    absurd (sides_differ (one_choice left right (Ok false) (Ok true) (on_left left right b two) (on_right left right a one)))

-- Two banks that represent a state have no fault.
stand_chosen : (left right : List ℕ) (st : State) → Stands left right st
    → (side : Bool) × (generation : ℕ) × IsChoice left right (Ok side) × StandsOn (chosen side left right) generation st
stand_chosen left right st (inl one) = (false, one.generation, on_left left right st one, one.stands)
stand_chosen left right st (inr one) = (true, one.generation, on_right left right st one, one.stands)

never_err : (f : ChoiceFault) (side : Bool) → Err f ≡ on_side side → ⊥
never_err f side e = absurd cc

side_is : (a b : Bool) → on_side a ≡ on_side b → a ≡ b
side_is a b e = cc

never_told : (left right : List ℕ) (f : ChoiceFault) (st : State) → Stands left right st → f ≢ Disk → f ≢ Memory → IsFaultOfBoth left right f → ⊥
never_told left right f st stands disk memory (inl is) =
    let one = stand_chosen left right st stands in
    never_err f one.0 (one_choice left right (Err f) (Ok one.0) is one.2)
never_told left right f st stands disk memory (inr is) =
    let one = stand_chosen left right st stands in
    let side : is.side ≡ one.0 = side_is is.side one.0 (one_choice left right (Ok is.side) (Ok one.0) is.choice_is one.2) in
    let on = subst (λ s. StandsOn (chosen s left right) one.1 st) (sym side) one.3 in
    by is.fault is.told_is is.fault_is on
  where
    by : (fault : BankFault) → f ≡ fault_on is.side fault → IsFaultOfFile (chosen is.side left right) fault
        → {g : ℕ} → StandsOn (chosen is.side left right) g st → ⊥
    by (banks.Damaged offset) told file {g} on = never_fault (chosen is.side left right) g st offset on file
    by banks.NoBank told file {g} on = file (is_candidate on.form (chosen is.side left right) g (spell_state on.form on.opening) on.records on.bank)
    by banks.Memory told file on = memory told
    by banks.Disk told file on = disk told
    by banks.Spent told file on = file
    by banks.Full told file on = file

pub only_told : (left right : List ℕ) (f : ChoiceFault) (st : State) → Stands left right st
    → (f ≢ Disk → f ≢ Memory → IsFaultOfBoth left right f) → (f ≡ Disk) ⊎ (f ≡ Memory)
only_told left right Disk st stands fault = inl refl
only_told left right Memory st stands fault = inr refl
only_told left right NoStore st stands fault =
    absurd (never_told left right NoStore st stands (λ e. absurd cc) (λ e. absurd cc) (fault (λ e. absurd cc) (λ e. absurd cc)))
only_told left right (Damaged side offset) st stands fault =
    absurd (never_told left right (Damaged side offset) st stands (λ e. absurd cc) (λ e. absurd cc) (fault (λ e. absurd cc) (λ e. absurd cc)))

-- ---- what was chosen

chosen_lesser_left : (left right : List ℕ) (generation : ℕ) (st : State) → IsChoice left right (Ok false)
    → StandsOn left generation st → IsLesser generation right
chosen_lesser_left left right generation st is on = by is.left_heading is.right_heading is.left_is is.right_is is.told_is
  where
    here : IsHeading left (Bank on.form generation)
    here = heading_of on.form left generation (spell_state on.form on.opening) on.records on.bank

    lesser : (f k : Form) (a b : ℕ) → choice (Bank f a) (Bank k b) ≡ Ok false → b < a
    lesser f k a b e =
        elim (cases_lt b a) [
          | inl lt ↦ lt
          | inr le ↦ elim (cases_lt a b) [
            | inl lt ↦ absurd (sides_differ (sym e ∙ greater_right f k a b lt))
            | inr ge ↦
                let same : a ≡ b = omega (arith, le, ge) in
                absurd (never_err (Damaged false 5) false
                (sym (ap (λ t. cond t (Err (Damaged false 5)) (cond (ltb b a) (Ok false) (Ok true))) (eq-eqb a b same)) ∙ e))
          ]
        ]

    same_generation : (f : Form) (a : ℕ) → IsHeading left (Bank f a) → a ≡ generation
    same_generation f a is = bank_is f on.form a generation (one_heading left (Bank f a) (Bank on.form generation) is here)
      where
        bank_is : (f k : Form) (x y : ℕ) → Bank f x ≡ Bank k y → x ≡ y
        bank_is f k x y e = cc

    by : (l r : Heading) → IsHeading left l → IsHeading right r → choice l r ≡ Ok false → IsLesser generation right
    by Foreign r one two e = absurd (never_err (Damaged false 1) false e)
    by NoBank Foreign one two e = absurd (never_err (Damaged true 1) false e)
    by NoBank NoBank one two e = absurd (never_err NoStore false e)
    by NoBank (Bank k b) one two e = absurd (one (opens left on.form generation here))
    by (Bank f a) Foreign one two e = absurd (never_err (Damaged true 1) false e)
    by (Bank f a) NoBank one two e = inl two
    by (Bank f a) (Bank k b) one two e = inr (k, b, two, subst (λ n. b < n) (same_generation f a one) (lesser f k a b e))

chosen_lesser_right : (left right : List ℕ) (generation : ℕ) (st : State) → IsChoice left right (Ok true)
    → StandsOn right generation st → IsLesser generation left
chosen_lesser_right left right generation st is on = by is.left_heading is.right_heading is.left_is is.right_is is.told_is
  where
    here : IsHeading right (Bank on.form generation)
    here = heading_of on.form right generation (spell_state on.form on.opening) on.records on.bank

    lesser : (f k : Form) (a b : ℕ) → choice (Bank f a) (Bank k b) ≡ Ok true → a < b
    lesser f k a b e =
        elim (cases_lt a b) [
          | inl lt ↦ lt
          | inr le ↦ elim (cases_lt b a) [
            | inl lt ↦ absurd (sides_differ (sym (greater_left f k a b lt) ∙ e))
            | inr ge ↦
                let same : a ≡ b = omega (arith, le, ge) in
                absurd (never_err (Damaged false 5) true
                (sym (ap (λ t. cond t (Err (Damaged false 5)) (cond (ltb b a) (Ok false) (Ok true))) (eq-eqb a b same)) ∙ e))
          ]
        ]

    same_generation : (f : Form) (b : ℕ) → IsHeading right (Bank f b) → b ≡ generation
    same_generation f b is = bank_is f on.form b generation (one_heading right (Bank f b) (Bank on.form generation) is here)
      where
        bank_is : (f k : Form) (x y : ℕ) → Bank f x ≡ Bank k y → x ≡ y
        bank_is f k x y e = cc

    by : (l r : Heading) → IsHeading left l → IsHeading right r → choice l r ≡ Ok true → IsLesser generation left
    by Foreign r one two e = absurd (never_err (Damaged false 1) true e)
    by NoBank Foreign one two e = absurd (never_err (Damaged true 1) true e)
    by NoBank NoBank one two e = absurd (never_err NoStore true e)
    by NoBank (Bank k b) one two e = inl one
    by (Bank f a) Foreign one two e = absurd (never_err (Damaged true 1) true e)
    by (Bank f a) NoBank one two e = absurd (sides_differ e)
    by (Bank f a) (Bank k b) one two e = inr (f, a, one, subst (λ n. a < n) (same_generation k b two) (lesser f k a b e))

-- What was chosen is up,
pub up_left : (left right : List ℕ) (form : Form) (generation end : ℕ) (used other : View) (st : State) → IsChoice left right (Ok false)
    → IsStored form generation end used st → used.seen ≡ left → other.seen ≡ right → IsDurable other → IsUp form generation end used other st
up_left left right form generation end used other st is stored here there durable = record {
  stored = stored;
  lesser = subst (IsLesser generation) (sym there)
      (chosen_lesser_left left right generation st is (subst (λ l. StandsOn l generation st) here (stands_on form generation end used st stored)));
  durable = durable;
}

pub up_right : (left right : List ℕ) (form : Form) (generation end : ℕ) (used other : View) (st : State) → IsChoice left right (Ok true)
    → IsStored form generation end used st → used.seen ≡ right → other.seen ≡ left → IsDurable other → IsUp form generation end used other st
up_right left right form generation end used other st is stored here there durable = record {
  stored = stored;
  lesser = subst (IsLesser generation) (sym there)
      (chosen_lesser_right left right generation st is (subst (λ l. StandsOn l generation st) here (stands_on form generation end used st stored)));
  durable = durable;
}

-- and represents the state.
pub used_here : (used_file other_file : List ℕ) (form : Form) (generation end : ℕ) (used other : View) (st : State)
    → IsUp form generation end used other st → used.seen ≡ used_file → other.seen ≡ other_file → IsInUse used_file other_file st
used_here used_file other_file form generation end used other st up here there = record {
  generation = generation;
  stands = subst (λ l. StandsOn l generation st) here (stands_on form generation end used st up.stored);
  lesser = subst (IsLesser generation) there up.lesser;
}

-- The fault that is reported for the bank that was chosen.
pub chosen_fault : (left right : List ℕ) (side : Bool) (fault : BankFault) (told : ChoiceFault) → IsChoice left right (Ok side)
    → told ≡ fault_on side fault → (fault ≢ banks.Disk → IsFaultOfFile (chosen side left right) fault) → told ≢ Disk → IsFaultOfBoth left right told
chosen_fault left right side fault told is told_is there disk =
    inr record { side = side; choice_is = is; fault = fault; told_is = told_is; fault_is = there (λ e. disk (told_is ∙ ap (fault_on side) e)) }

-- What leaves nothing new twice leaves nothing new.
pub nothing_new : (old mid new : View) → LeavesNothingNew old mid → IsTimed mid → LeavesNothingNew mid new → LeavesNothingNew old new
nothing_new old mid new first timed second =
    one_run old mid new old.may_leave mid.may_leave old.may_leave first second (λ image is. is)
    (λ image left. leaves_now old mid old.may_leave first timed image left)
