-- A new bank that is written in steps: what it has, and what a crash may leave of it.
use Rattle.std.proofs.Common.{◌≡◌, ℕ, ◌+◌, ◌≤◌, inl, inr, List, [], ◌∷◌, ◌++◌, length, take, drop, refl, ap, subst, ◌∙◌, append_assoc, length-append, arith}
use Rattle.std.proofs.lemmas.List.{take_at}
use Rattle.linda_tuple.specs.declared.form.Form.{Form}
use Rattle.linda_store_state.specs.DeedFormat.{written}
use Rattle.linda_store_state.specs.declared.deed.Deed.{Deed}
use Rattle.linda_disk.specs.View.{View, IsDurable}
use Rattle.linda_disk.specs.Image.{overlay, TornWrite}
use Rattle.linda_disk.specs.Run.{LeavesOnly}
use Rattle.linda_disk.proofs.RunLaws.{weaker, joined}
use Rattle.linda_journal.specs.declared.kinds.TheConstants.{OPEN, CLOSED}
use Rattle.linda_journal.specs.declared.limits.TheConstants.{MIN_BYTES}
use Rattle.linda_journal.specs.Records.{spell_records}
use Rattle.linda_journal.specs.Gate.{ClosesAfter, IsShut, IsReady, IsClosedOrOpened}
use Rattle.linda_journal.specs.Bank.{behind_gate, head, IsBank, IsSettled}
use Rattle.linda_journal.specs.Renewal.{IsNoBank, IsClosed, IsFilled, IsLast, IsWholeWith, IsNoneOrNewWith}
use Rattle.linda_journal.proofs.BankLaws.{no_candidate}
use Rattle.linda_journal.proofs.RenewalLaws.{torn_later, closes_of, front_length}

-- ---- a step

filled_closes : (front : List ℕ) (at : ℕ) (v : View) → IsFilled front at v → ClosesAfter [] v.seen
filled_closes front at v filled = record { gate = filled.gate; rest = front ++ filled.rest; parts = filled.parts; closed = filled.closed }

pub step_within : (front : List ℕ) (at : ℕ) (v : View) → IsFilled front at v → at ≤ length v.seen
step_within front at v filled = omega (arith, filled.place, ap length filled.parts, length-append front filled.rest)

-- After a closed first gate there is nothing yet.
pub none_filled : (v : View) → IsClosed v.seen → IsDurable v → IsFilled [] 1 v
none_filled v closed durable =
    let closes = closes_of v.seen closed in
    record { gate = closes.gate; rest = closes.rest; parts = closes.parts; closed = closes.closed; place = refl; durable = durable }

-- A crash at any moment of the write leaves no bank.
pub step_run : (front : List ℕ) (at n : ℕ) (old new : View) → IsFilled front at old → LeavesOnly old new (TornWrite at n old.seen) → LeavesOnly old new IsNoBank
step_run front at n old new filled run =
    weaker old new (TornWrite at n old.seen) IsNoBank run
    (λ image torn. no_candidate image (torn_later at n old.seen image (omega (arith, filled.place)) (filled_closes front at old filled) torn))

-- What was written is after what there was.
pub step_filled : (front : List ℕ) (at : ℕ) (bytes : List ℕ) (old new : View) → IsFilled front at old
    → new.seen ≡ overlay at bytes old.seen → IsDurable new → IsFilled (front ++ bytes) (at + length bytes) new
step_filled front at bytes old new filled written durable =
    let before : take at old.seen ≡ filled.gate ∷ front =
    ap (take at) filled.parts ∙ ap (λ n. take n (filled.gate ∷ (front ++ filled.rest))) filled.place
    ∙ take_at (filled.gate ∷ front) filled.rest (1 + length front) (omega arith)
    in record {
      gate = filled.gate;
      rest = drop (at + length bytes) old.seen;
      parts = written ∙ ap (λ l. (l ++ bytes) ++ drop (at + length bytes) old.seen) before;
      closed = filled.closed;
      place = omega (arith, filled.place, length-append front bytes);
      durable = durable;
    }

-- With a closed gate at its end the body is ready after the first gate.
pub filled_ready : (body : List ℕ) (at : ℕ) (v : View) → IsFilled (body ++ CLOSED ∷ []) at v → IsReady [] 0 body v
filled_ready body at v filled = record {
  place = refl;
  value = filled.gate;
  rest = filled.rest;
  parts = filled.parts ∙ ap (λ l. filled.gate ∷ l) (append_assoc body (CLOSED ∷ []) filled.rest);
  closed = filled.closed;
  durable = filled.durable;
}

-- ---- the first gate opens

module _ (form : Form) (generation : ℕ) (body : List ℕ) (rs : List (List Deed)) (end : ℕ) (old : View)
    (whole : IsWholeWith form generation body rs end old) where
  new_with : (file : List ℕ) → ClosesAfter (OPEN ∷ (behind_gate form generation body ++ spell_records form rs)) file → IsBank form file generation body rs
  new_with file closes = record {
    low = whole.low;
    fits = whole.fits;
    short = whole.short;
    rest = spell_records form rs ++ closes.gate ∷ closes.rest;
    parts = closes.parts ∙ append_assoc (head form generation body) (spell_records form rs) (closes.gate ∷ closes.rest);
    journal = record { gate = closes.gate; rest = closes.rest; parts = refl; closed = closes.closed; good = whole.good };
  }

  none_or_with : (file : List ℕ) → IsClosedOrOpened [] (behind_gate form generation body ++ spell_records form rs) file
      → IsNoneOrNewWith form generation body rs file
  none_or_with file (inl closes) = inl (no_candidate file closes)
  none_or_with file (inr closes) = inr (new_with file closes)

  pub unlocking_with : (new : View) → LeavesOnly old new (IsClosedOrOpened [] (behind_gate form generation body ++ spell_records form rs))
      → LeavesOnly old new (IsNoneOrNewWith form generation body rs)
  unlocking_with new run = weaker old new (IsClosedOrOpened [] (behind_gate form generation body ++ spell_records form rs))
      (IsNoneOrNewWith form generation body rs) run none_or_with

  pub unlocked_with : (new : View) → IsShut (OPEN ∷ (behind_gate form generation body ++ spell_records form rs))
      (1 + length (behind_gate form generation body ++ spell_records form rs)) new → IsSettled form generation body rs end new
  unlocked_with new shut = record {
    file = new_with new.seen shut.file;
    place = omega (arith, whole.place);
    durable = shut.durable;
  }

-- ---- the last bytes

-- With them the new bank has so many bytes after its first gate.
pub last_long : (generation : ℕ) (body : List ℕ) (rs : List (List Deed)) (front bytes : List ℕ)
    → IsLast generation body rs front bytes → length front + length bytes ≡ MIN_BYTES + length body + length (spell_records written rs)
last_long generation body rs front bytes last =
    let behind = behind_gate written generation body in
    let all = behind ++ spell_records written rs in
    let long : length (front ++ bytes) ≡ length all + 1 = ap length last.parts ∙ length-append all (CLOSED ∷ []) in
    let head : length behind + 1 ≡ MIN_BYTES + length body = omega (arith, front_length written generation body, length-append behind (CLOSED ∷ [])) in
    let joined : length all ≡ length behind + length (spell_records written rs) = length-append behind (spell_records written rs) in
    omega (arith, long, head, joined, length-append front bytes)

-- After its closed first gate the new bank is then whole.
pub last_whole : (generation : ℕ) (body : List ℕ) (rs : List (List Deed)) (front bytes : List ℕ) (at end : ℕ) (v : View)
    → IsLast generation body rs front bytes → IsFilled (front ++ bytes) at v → end + 1 ≡ at → IsWholeWith written generation body rs end v
last_whole generation body rs front bytes at end v last filled end_is =
    let all = behind_gate written generation body ++ spell_records written rs in
    record {
      low = last.low;
      fits = last.fits;
      short = last.short;
      good = last.good;
      place = omega (arith, end_is, filled.place, length-append front bytes, last_long generation body rs front bytes last);
      ready = filled_ready all at v (subst (λ l. IsFilled l at v) last.parts filled);
    }

pub finishing : (generation : ℕ) (body : List ℕ) (rs : List (List Deed)) (old mid new : View) → LeavesOnly old mid IsNoBank
    → LeavesOnly mid new (IsNoneOrNewWith written generation body rs) → LeavesOnly old new (IsNoneOrNewWith written generation body rs)
finishing generation body rs old mid new first second =
    joined old mid new IsNoBank (IsNoneOrNewWith written generation body rs)
    (IsNoneOrNewWith written generation body rs) first second (λ image none. inl none) (λ image is. is)

pub filling_only : (generation : ℕ) (body : List ℕ) (rs : List (List Deed)) (old new : View)
    → LeavesOnly old new IsNoBank → LeavesOnly old new (IsNoneOrNewWith written generation body rs)
filling_only generation body rs old new run = weaker old new IsNoBank (IsNoneOrNewWith written generation body rs) run (λ image none. inl none)
