-- A disk that is not in use becomes a new bank: what a crash may make of it, step by step.
use Rattle.std.proofs.Common.{◌≡◌, ℕ, zero, suc, ◌+◌, ◌*◌, ◌<◌, ◌≤◌, ◌⊎◌, inl, inr, List, [], ◌∷◌, ◌++◌, length, take}
use Rattle.std.proofs.Common.{drop, refl, sym, ap, subst, ◌∙◌, append_assoc, length-append, arith}
use Rattle.std.specs.Prelude.{Result, max}
use Rattle.std.proofs.lemmas.List.{take_at, drop_at, drop-drop, length-take}
use Rattle.linda_tuple.specs.declared.form.Form.{Form}
use Rattle.linda_disk.specs.declared.fault.DiskFault.{DiskFault}
use Rattle.linda_disk.specs.View.{View, IsDurable, IsTimed}
use Rattle.linda_disk.specs.Image.{overlay, TornWrite}
use Rattle.linda_disk.specs.Disk.{Writes}
use Rattle.linda_disk.specs.Run.{LeavesOnly}
use Rattle.linda_disk.proofs.RunLaws.{started, goes_on_by, weaker, joined}
use Rattle.linda_journal.specs.declared.kinds.TheConstants.{OPEN, CLOSED}
use Rattle.linda_journal.specs.declared.limits.TheConstants.{MIN_BYTES}
use Rattle.linda_journal.specs.Gate.{ClosesAfter, IsShut, IsClosedOrOpened}
use Rattle.linda_journal.specs.Bank.{behind_gate, IsSettled, IsNoneOrNew}
use Rattle.linda_journal.specs.Renewal.{IsNoBank, IsClosed, IsSameOrNone, IsOpenOrShort, IsWhole, pieces, TakesCalls}
use Rattle.linda_journal.proofs.BankLaws.{no_candidate, none_or_new, made}

-- ---- closing

heads_same : (a b : ℕ) (x y : List ℕ) → a ∷ x ≡ b ∷ y → a ≡ b
heads_same a b x y e = cc

pub no_open : (b : ℕ) (more : List ℕ) → (b ≡ OPEN → ⊥) → IsNoBank (b ∷ more)
no_open b more closed candidate = closed (heads_same b OPEN more candidate.1.0 candidate.1.1)

-- The write of the first gate, cut short: a first gate that was open is open still, and then the bytes are the same.
torn_first : (old image : List ℕ) → IsOpenOrShort old → TornWrite 0 1 old image → IsSameOrNone old image
torn_first old image (inl short) torn = inr (λ candidate. too_short (length old) (length image) short torn.no_longer candidate.0)
  where
    too_short : (n m : ℕ) → n < MIN_BYTES → m ≤ max n 1 → MIN_BYTES ≤ m → ⊥
    too_short n m short le some = omega (arith, short, le, some)
torn_first old image (inr opens) torn = by image torn.after
  where
    by : (image : List ℕ) → drop 1 image ≡ drop 1 old → IsSameOrNone old image
    by [] after = inr (λ candidate. omega (arith, candidate.0))
    by (zero ∷ more) after = inr (no_open zero more (λ e. absurd (omega (arith, e))))
    by (suc zero ∷ more) after = inl (ap (λ l. OPEN ∷ l) (after ∙ ap (drop 1) opens.1) ∙ sym opens.1)
    by (suc (suc n) ∷ more) after = inr (no_open (suc (suc n)) more (λ e. absurd (omega (arith, e))))

pub write_closed : (old mid new : View) → LeavesOnly old mid (λ image. image ≡ old.seen) → mid.seen ≡ old.seen
    → IsOpenOrShort old.seen → LeavesOnly mid new (TornWrite 0 1 mid.seen) → LeavesOnly old new (IsSameOrNone old.seen)
write_closed old mid new before same opens run =
    joined old mid new (λ image. image ≡ old.seen) (TornWrite 0 1 mid.seen) (IsSameOrNone old.seen) before run
    (λ image is. inl is) (λ image torn. torn_first old.seen image opens (subst (λ l. TornWrite 0 1 l image) same torn))

-- ---- writing after a closed gate

pub closes_of : (file : List ℕ) → IsClosed file → ClosesAfter [] file
closes_of [] closed = absurd (omega (arith, closed.0))
closes_of (b ∷ rest) closed = record { gate = b; rest = rest; parts = refl; closed = λ e. closed.1 rest (ap (λ g. g ∷ rest) e) }

pub torn_later : (at n : ℕ) (old image : List ℕ) → 1 ≤ at → ClosesAfter [] old → TornWrite at n old image → ClosesAfter [] image
torn_later zero n old image le closes torn = absurd (omega (arith, le))
torn_later (suc k) n old image le closes torn = by image (torn.before ∙ ap (take (suc k)) closes.parts) torn.no_shorter
  where
    by : (image : List ℕ) → take (suc k) image ≡ take (suc k) (closes.gate ∷ closes.rest) → length old ≤ length image → ClosesAfter [] image
    by [] same long = absurd (omega (arith, long, ap length closes.parts))
    by (b ∷ more) same long =
        record { gate = b; rest = more; parts = refl; closed = λ e. closes.closed (sym (heads_same b closes.gate (take k more) (take k closes.rest) same) ∙ e) }

-- These bytes, the front of all of them, were written so far, from offset 1 on.
pub record IsWrittenTo (bytes : List ℕ) (old now : View) (at : ℕ) (rest : List ℕ) : Type 0 where
  pub front : List ℕ
  pub parts : bytes ≡ front ++ rest
  pub place : at ≡ 1 + length front
  pub seen : now.seen ≡ overlay 1 front old.seen
  pub run : LeavesOnly old now (ClosesAfter [])

overlay_none : (file : List ℕ) → 0 < length file → overlay 1 [] file ≡ file
overlay_none [] some = absurd (omega (arith, some))
overlay_none (b ∷ file) some = refl

pub none_written : (bytes : List ℕ) (old : View) → IsTimed old → IsDurable old → IsClosed old.seen → IsWrittenTo bytes old old 1 bytes
none_written bytes old timed durable closed = record {
  front = [];
  parts = refl;
  place = refl;
  seen = sym (overlay_none old.seen closed.0);
  run = started old (ClosesAfter []) timed (λ image left. subst (ClosesAfter []) (sym (durable image left)) (closes_of old.seen closed));
}

-- Writing one piece after the other is the same as writing both at once.
overlay_more : (front piece file : List ℕ) → 0 < length file → overlay (1 + length front) piece (overlay 1 front file) ≡ overlay 1 (front ++ piece) file
overlay_more front piece file some =
    let start : List ℕ = take 1 file in
    let behind : List ℕ = drop (1 + length front) file in
    let here : length (start ++ front) ≡ 1 + length front = omega (arith, some, length-append start front, length-take 1 file) in
    let before : take (1 + length front) ((start ++ front) ++ behind) ≡ start ++ front = take_at (start ++ front) behind (1 + length front) here in
    let after : drop (1 + length front + length piece) ((start ++ front) ++ behind) ≡ drop (1 + length front + length piece) file =
    sym (drop-drop (length piece) (1 + length front) ((start ++ front) ++ behind))
    ∙ ap (drop (length piece)) (drop_at (start ++ front) behind (1 + length front) here)
    ∙ drop-drop (length piece) (1 + length front) file
    in
    let count : 1 + length front + length piece ≡ 1 + length (front ++ piece) = omega (arith, length-append front piece) in
    ap (λ l. (l ++ piece) ++ drop (1 + length front + length piece) ((start ++ front) ++ behind)) before
    ∙ ap (λ l. ((start ++ front) ++ piece) ++ l) (after ∙ ap (λ n. drop n file) count)
    ∙ ap (λ l. l ++ drop (1 + length (front ++ piece)) file) (append_assoc start front piece)

overlay_long : (front file : List ℕ) → 0 < length file → 1 + length front ≤ length (overlay 1 front file)
overlay_long front file some =
    omega (arith, some, length-append (take 1 file ++ front) (drop (1 + length front) file), length-append (take 1 file) front, length-take 1 file)

-- A piece begins within the file.
pub piece_within : (bytes : List ℕ) (old now : View) (at : ℕ) (rest : List ℕ) → 0 < length old.seen → IsWrittenTo bytes old now at rest → at ≤ length now.seen
piece_within bytes old now at rest some so_far =
    let n : length now.seen ≡ length (overlay 1 so_far.front old.seen) = ap length so_far.seen in
    omega (arith, n, so_far.place, overlay_long so_far.front old.seen some)

pub piece_run : {T : Type 0} (bytes : List ℕ) (old now new : View) (at : ℕ) (rest piece : List ℕ) (result : Result T DiskFault)
    → IsTimed now → IsWrittenTo bytes old now at rest → Writes at piece result now new → LeavesOnly old new (ClosesAfter [])
piece_run bytes old now new at rest piece result timed so_far writes =
    goes_on_by (TornWrite at (length piece)) old now new (ClosesAfter []) so_far.run timed writes.crash writes.time
    (λ before image closes torn. torn_later at (length piece) before image (omega (arith, so_far.place)) closes torn)

pub piece_seen : (bytes : List ℕ) (old now new : View) (at : ℕ) (rest piece : List ℕ) → 0 < length old.seen
    → (so_far : IsWrittenTo bytes old now at rest) → new.seen ≡ overlay at piece now.seen → new.seen ≡ overlay 1 (so_far.front ++ piece) old.seen
piece_seen bytes old now new at rest piece some so_far written =
    written
    ∙ ap (λ n. overlay n piece now.seen) so_far.place
    ∙ ap (overlay (1 + length so_far.front) piece) so_far.seen
    ∙ overlay_more so_far.front piece old.seen some

pub one_piece_more : {T : Type 0} (bytes : List ℕ) (old now new : View) (at : ℕ) (rest piece later : List ℕ) (result : Result T DiskFault)
    → 0 < length old.seen → IsTimed now → IsWrittenTo bytes old now at rest → rest ≡ piece ++ later
    → Writes at piece result now new → new.seen ≡ overlay at piece now.seen
    → IsWrittenTo bytes old new (at + length piece) later
one_piece_more bytes old now new at rest piece later result some timed so_far split writes written = record {
  front = so_far.front ++ piece;
  parts = so_far.parts ∙ ap (λ l. so_far.front ++ l) split ∙ sym (append_assoc so_far.front piece later);
  place = omega (arith, so_far.place, length-append so_far.front piece);
  seen = piece_seen bytes old now new at rest piece some so_far written;
  run = piece_run bytes old now new at rest piece result timed so_far writes;
}

pub all_seen : (bytes : List ℕ) (old now new : View) (at : ℕ) (rest : List ℕ) → 0 < length old.seen
    → IsWrittenTo bytes old now at rest → new.seen ≡ overlay at rest now.seen → new.seen ≡ overlay 1 bytes old.seen
all_seen bytes old now new at rest some so_far written =
    piece_seen bytes old now new at rest rest some so_far written ∙ ap (λ l. overlay 1 l old.seen) (sym so_far.parts)

pub no_bank : (old new : View) → LeavesOnly old new (ClosesAfter []) → LeavesOnly old new IsNoBank
no_bank old new run = weaker old new (ClosesAfter []) IsNoBank run no_candidate

-- After whole pieces and the last one, so many writes were made.
pub pieces_counted : (bytes old now new at rest : ℕ) → at + rest ≡ 1 + bytes → now * 65536 + 1 ≡ old * 65536 + at
    → (at ≡ 1) ⊎ (0 < rest) → rest ≤ 65536 → new ≡ now + 1 → new ≡ old + pieces bytes
pieces_counted bytes old now new at rest all whole (inl first) last next = omega (arith, all, whole, first, last, next)
pieces_counted bytes old now new at rest all whole (inr some) last next = omega (arith, all, whole, some, last, next)

-- The number of bytes of a new bank after its first gate.
pub front_length : (form : Form) (generation : ℕ) (body : List ℕ) → length (behind_gate form generation body ++ CLOSED ∷ []) ≡ MIN_BYTES + length body
front_length form generation body = omega (arith, length-append body (CLOSED ∷ []))

-- More calls after those that closed the first gate.
pub then_calls : (calls more all : ℕ) (old mid new : View) → TakesCalls calls old mid
    → new.moment ≡ mid.moment + more → calls + more ≡ all → TakesCalls all old new
then_calls calls more all old mid new (inl x) next sum = inl (x.0, omega (arith, x.1, next, sum))
then_calls calls more all old mid new (inr x) next sum = inr (x.0, x.1, omega (arith, x.2, next, sum))

-- ---- opening

pub unlocking : (form : Form) (generation : ℕ) (body : List ℕ) (end : ℕ) (old new : View) → IsWhole form generation body end old
    → LeavesOnly old new (IsClosedOrOpened [] (behind_gate form generation body)) → LeavesOnly old new (IsNoneOrNew form generation body)
unlocking form generation body end old new whole run =
    weaker old new (IsClosedOrOpened [] (behind_gate form generation body)) (IsNoneOrNew form generation body) run
    (λ file is. none_or_new form generation body whole.low whole.fits whole.short file (inr is))

pub unlocked : (form : Form) (generation : ℕ) (body : List ℕ) (end : ℕ) (old new : View) → IsWhole form generation body end old
    → IsShut (OPEN ∷ behind_gate form generation body) (1 + length (behind_gate form generation body)) new → IsSettled form generation body [] end new
unlocked form generation body end old new whole shut = made form generation body end new whole.low whole.fits whole.short whole.place shut
