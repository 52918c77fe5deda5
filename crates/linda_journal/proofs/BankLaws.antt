-- A record after the gate of a bank: from gates and bodies to banks.
use Rattle.std.proofs.Common.{◌≡◌, ℕ, suc, ◌+◌, ◌^◌, ◌<◌, ◌≤◌, inl, inr, List, [], ◌∷◌, ◌++◌, All, length, refl, sym}
use Rattle.std.proofs.Common.{ap, subst, ◌∙◌, append_assoc, length-append, arith}
use Rattle.std.specs.Prelude.{Result}
use Rattle.std.proofs.lemmas.Grind.{flat_map-append}
use Rattle.std.proofs.lemmas.List.Elements.{All-nil, All-append}
use Rattle.linda_tuple.specs.declared.form.Form.{Form}
use Rattle.linda_store_state.specs.declared.deed.Deed.{Deed}
use Rattle.linda_disk.specs.declared.fault.DiskFault.{DiskFault}
use Rattle.linda_disk.specs.View.{View, IsTimed}
use Rattle.linda_disk.specs.Disk.{Syncs}
use Rattle.linda_disk.specs.Run.{LeavesOnly}
use Rattle.linda_disk.proofs.RunLaws.{started, goes_on, weaker, joined}
use Rattle.linda_journal.specs.declared.kinds.TheConstants.{OPEN}
use Rattle.linda_journal.specs.declared.limits.TheConstants.{MIN_BYTES}
use Rattle.linda_journal.specs.Records.{IsRecord, spell_record, spell_records, AreIn}
use Rattle.linda_journal.specs.Gate.{ClosesAfter, IsShut, IsClosedOrOpened, IsLaid}
use Rattle.linda_journal.specs.Bank.{IsCandidate, behind_gate, head, IsBank, IsSettled, IsSettledWithAll, IsOldOrAll, IsNoneOrNew}

-- What comes before the closed gate at the end.
abbrev pub whole : Form → ℕ → List ℕ → List (List Deed) → List ℕ
whole form generation body records = head form generation body ++ spell_records form records

module _ (form : Form) (generation : ℕ) (body : List ℕ) (records : List (List Deed)) where
  -- With records more, an open gate first.
  pub whole_with : (more : List (List Deed)) (behind : List ℕ) → spell_records form more ≡ OPEN ∷ behind
      → whole form generation body records ++ OPEN ∷ behind ≡ whole form generation body (records ++ more)
  whole_with more behind starts =
      append_assoc (head form generation body) (spell_records form records) (OPEN ∷ behind)
      ∙ ap (λ l. head form generation body ++ (spell_records form records ++ l)) (sym starts)
      ∙ ap (λ l. head form generation body ++ l) (sym (flat_map-append (spell_record form) records more))

  -- A bank's file has a closed gate after its records,
  pub shut_of : (end : ℕ) (v : View) → IsSettled form generation body records end v → IsShut (whole form generation body records) end v
  shut_of end v settled =
      let journal = settled.file.journal in
      record {
        place = length-append (head form generation body) (spell_records form records) ∙ settled.place;
        file = record {
          gate = journal.gate;
          rest = journal.rest;
          parts = settled.file.parts ∙ ap (λ l. head form generation body ++ l) journal.parts
              ∙ sym (append_assoc (head form generation body) (spell_records form records) (journal.gate ∷ journal.rest));
          closed = journal.closed;
        };
        durable = settled.durable;
      }

  -- and a file that closes so is the bank.
  pub bank_of : (other : List (List Deed)) (seen file : List ℕ) → IsBank form seen generation body other
      → All (IsRecord form) records → ClosesAfter (whole form generation body records) file → IsBank form file generation body records
  bank_of other seen file bank good closes = record {
    low = bank.low;
    fits = bank.fits;
    short = bank.short;
    rest = spell_records form records ++ closes.gate ∷ closes.rest;
    parts = closes.parts ∙ append_assoc (head form generation body) (spell_records form records) (closes.gate ∷ closes.rest);
    journal = record { gate = closes.gate; rest = closes.rest; parts = refl; closed = closes.closed; good = good };
  }

-- Records of these deeds, the first after an open gate, on a settled bank.
module _ (form : Form) (generation : ℕ) (body : List ℕ) (records : List (List Deed)) (ds : List Deed)
    (more : List (List Deed)) (are : AreIn ds more) (behind : List ℕ) (starts : spell_records form more ≡ OPEN ∷ behind)
    (end : ℕ) (old : View) (settled : IsSettled form generation body records end old) (are_good : All (IsRecord form) more) where
  good : All (IsRecord form) records
  good = settled.file.journal.good

  old_one : (file : List ℕ) → ClosesAfter (whole form generation body records) file → IsOldOrAll form generation body records ds file
  old_one file closes = inl (bank_of form generation body records records old.seen file settled.file good closes)

  with_all : (file : List ℕ) → ClosesAfter (whole form generation body records ++ OPEN ∷ behind) file → IsBank form file generation body (records ++ more)
  with_all file closes =
      bank_of form generation body (records ++ more) records old.seen file settled.file (All-append (IsRecord form) records more good are_good)
      (subst (λ l. ClosesAfter l file) (whole_with form generation body records more behind starts) closes)

  either_one : (file : List ℕ) → IsClosedOrOpened (whole form generation body records) behind file → IsOldOrAll form generation body records ds file
  either_one file (inl closes) = old_one file closes
  either_one file (inr closes) = inr (more, are, with_all file closes)

  -- While the records are put.
  pub putting_all : (new : View) → LeavesOnly old new (IsClosedOrOpened (whole form generation body records) behind)
      → LeavesOnly old new (IsOldOrAll form generation body records ds)
  putting_all new run = weaker old new (IsClosedOrOpened (whole form generation body records) behind)
      (IsOldOrAll form generation body records ds) run either_one

  -- When it is open.
  pub settled_with : (new : View) (new_end : ℕ) → new_end ≡ end + length (spell_records form more)
      → IsShut (whole form generation body records ++ OPEN ∷ behind) (end + 1 + length behind) new
      → IsSettledWithAll form generation body records ds new_end new
  settled_with new new_end end_is shut =
      let long : length (spell_records form more) ≡ suc (length behind) = ap length starts in
      let place : length (whole form generation body (records ++ more)) ≡ new_end =
      sym (ap length (whole_with form generation body records more behind starts)) ∙ shut.place
      ∙ sum end (length behind) ∙ ap (λ n. end + n) (sym long) ∙ sym end_is in
      record {
        more = more;
        are = are;
        settled = record {
          file = with_all new.seen shut.file;
          place = sym (length-append (head form generation body) (spell_records form (records ++ more))) ∙ place;
          durable = shut.durable;
        };
      }
    where
      sum : (e k : ℕ) → e + 1 + k ≡ e + suc k
      sum e k = omega arith

-- ---- a new bank

pub no_candidate : (file : List ℕ) → ClosesAfter [] file → IsCandidate file → ⊥
no_candidate file closes candidate = closes.closed (first_is closes.gate OPEN closes.rest candidate.1.0 (sym closes.parts ∙ candidate.1.1))
  where
    first_is : (a b : ℕ) (x y : List ℕ) → a ∷ x ≡ b ∷ y → a ≡ b
    first_is a b x y e = cc

new_one : (form : Form) (generation : ℕ) (body file : List ℕ) → 1 ≤ generation → generation < 2 ^ 64
    → length body < 2 ^ 32 → ClosesAfter (head form generation body) file → IsBank form file generation body []
new_one form generation body file low fits short closes = record {
  low = low;
  fits = fits;
  short = short;
  rest = closes.gate ∷ closes.rest;
  parts = closes.parts;
  journal = record { gate = closes.gate; rest = closes.rest; parts = refl; closed = closes.closed; good = All-nil (IsRecord form) };
}

pub none_or_new : (form : Form) (generation : ℕ) (body : List ℕ) → 1 ≤ generation → generation < 2 ^ 64 → length body < 2 ^ 32
    → (file : List ℕ) → IsLaid (behind_gate form generation body) file → IsNoneOrNew form generation body file
none_or_new form generation body low fits short file (inl is) = inl (λ candidate. omega (arith, is, candidate.0))
none_or_new form generation body low fits short file (inr (inl closes)) = inl (no_candidate file closes)
none_or_new form generation body low fits short file (inr (inr closes)) = inr (new_one form generation body file low fits short closes)

pub making : (form : Form) (generation : ℕ) (body : List ℕ) (old new : View) → 1 ≤ generation → generation < 2 ^ 64 → length body < 2 ^ 32
    → LeavesOnly old new (IsLaid (behind_gate form generation body)) → LeavesOnly old new (IsNoneOrNew form generation body)
making form generation body old new low fits short run =
    weaker old new (IsLaid (behind_gate form generation body)) (IsNoneOrNew form generation body) run (none_or_new form generation body low fits short)

pub made : (form : Form) (generation : ℕ) (body : List ℕ) (end : ℕ) (new : View) → 1 ≤ generation → generation < 2 ^ 64 → length body < 2 ^ 32
    → end ≡ MIN_BYTES + length body → IsShut (OPEN ∷ behind_gate form generation body) (1 + length (behind_gate form generation body)) new
    → IsSettled form generation body [] end new
made form generation body end new low fits short end_is shut = record {
  file = new_one form generation body new.seen low fits short shut.file;
  place = omega (arith, end_is);
  durable = shut.durable;
}

-- ---- a bank that is opened

-- A run after a sync leaves what could be left before the sync.
pub after_sync : {T : Type 0} (result : Result T DiskFault) (old mid new : View) → IsTimed old
    → Syncs result old mid → LeavesOnly mid new mid.may_leave → LeavesOnly old new old.may_leave
after_sync result old mid new timed syncs second =
    joined old mid new old.may_leave mid.may_leave old.may_leave
    (goes_on old old mid old.may_leave (started old old.may_leave timed (λ image left. left)) syncs.time syncs.crash) second (λ image is. is) syncs.crash
