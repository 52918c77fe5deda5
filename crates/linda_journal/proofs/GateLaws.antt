-- What one write after a gate, and one write of its byte, make of a file, and what a crash may make of them.
use Rattle.std.proofs.Common.{◌≡◌, ◌≢◌, ℕ, zero, suc, ◌+◌, ◌≤◌, inl, inr, List, [], ◌∷◌, ◌++◌, length, take, drop, refl}
use Rattle.std.proofs.Common.{sym, ap, subst, ◌∙◌, append_assoc, length-append, arith}
use Rattle.std.specs.Prelude.{max}
use Rattle.std.proofs.lemmas.List.{take_at, drop_at, take-append-drop, length-drop, drop-drop}
use Rattle.linda_disk.specs.View.{View, IsDurable}
use Rattle.linda_disk.specs.Image.{overlay, TornWrite}
use Rattle.linda_disk.specs.Run.{LeavesOnly}
use Rattle.linda_disk.proofs.RunLaws.{weaker, joined}
use Rattle.linda_journal.specs.declared.kinds.TheConstants.{OPEN, CLOSED}
use Rattle.linda_journal.specs.Gate.{ClosesAfter, IsShut, IsReady, IsClosedOrOpened, IsLaid}

-- A file by the byte at an offset.
split_at : (front : List ℕ) (gate : ℕ) (rest file : List ℕ) (place : ℕ) → length front ≡ place
    → take (place + 1) file ≡ front ++ gate ∷ [] → file ≡ front ++ gate ∷ drop (place + 1) file
split_at front gate rest file place there e = sym (take-append-drop (place + 1) file)
    ∙ ap (λ l. l ++ drop (place + 1) file) e ∙ append_assoc front (gate ∷ []) (drop (place + 1) file)

-- What is before the gate, and the gate.
up_to : (front : List ℕ) (gate : ℕ) (rest : List ℕ) (place : ℕ) → length front ≡ place → take (place + 1) (front ++ gate ∷ rest) ≡ front ++ gate ∷ []
up_to front gate rest place there =
    let n : length (front ++ gate ∷ []) ≡ place + 1 = omega (arith, there, length-append front (gate ∷ [])) in
    ap (take (place + 1)) (sym (append_assoc front (gate ∷ []) rest)) ∙ take_at (front ++ gate ∷ []) rest (place + 1) n

-- A write after a gate that a crash cuts short leaves the gate.
pub torn_behind : (front : List ℕ) (place n : ℕ) (old image : List ℕ) → length front ≡ place
    → ClosesAfter front old → TornWrite (place + 1) n old image → ClosesAfter front image
torn_behind front place n old image there closes torn =
    let same : take (place + 1) image ≡ front ++ closes.gate ∷ [] = torn.before ∙ ap (take (place + 1)) closes.parts
    ∙ up_to front closes.gate closes.rest place there in
    record { gate = closes.gate; rest = drop (place + 1) image; parts = split_at front closes.gate closes.rest image place there same; closed = closes.closed }

-- The body and the closed gate after it, once they are written.
pub put_behind : (front body : List ℕ) (gate : ℕ) (rest : List ℕ) (place : ℕ) → length front ≡ place
    → overlay (place + 1) (body ++ CLOSED ∷ []) (front ++ gate ∷ rest) ≡ front ++ gate
    ∷ (body ++ CLOSED ∷ drop (place + 1 + length (body ++ CLOSED ∷ [])) (front ++ gate ∷ rest))
put_behind front body gate rest place there =
    let whole : List ℕ = front ++ gate ∷ rest in
    let tail : List ℕ = drop (place + 1 + length (body ++ CLOSED ∷ [])) whole in
    ap (λ l. l ++ (body ++ CLOSED ∷ []) ++ tail) (up_to front gate rest place there)
    ∙ regroup front gate body tail
  where
    regroup : (front : List ℕ) (gate : ℕ) (body tail : List ℕ) → (front ++ gate ∷ []) ++ (body ++ CLOSED ∷ []) ++ tail ≡ front ++ gate ∷ (body ++ CLOSED ∷ tail)
    regroup front gate body tail = search (append_assoc)

-- ---- the gate's byte

not_open : CLOSED ≢ OPEN
not_open e = absurd (omega (arith, e))

-- An open gate, once its byte is written.
pub put_open : (front : List ℕ) (value : ℕ) (tail : List ℕ) (place : ℕ) → length front ≡ place
    → overlay place (OPEN ∷ []) (front ++ value ∷ tail) ≡ front ++ OPEN ∷ tail
put_open front value tail place there =
    let before : take place (front ++ value ∷ tail) ≡ front = take_at front (value ∷ tail) place there in
    let n : length (front ++ value ∷ []) ≡ place + 1 = omega (arith, there, length-append front (value ∷ [])) in
    let after : drop (place + 1) (front ++ value ∷ tail) ≡ tail =
    ap (drop (place + 1)) (sym (append_assoc front (value ∷ []) tail)) ∙ drop_at (front ++ value ∷ []) tail (place + 1) n
    in
    ap (λ l. l ++ (OPEN ∷ []) ++ drop (place + 1) (front ++ value ∷ tail)) before
    ∙ ap (λ l. front ++ (OPEN ∷ []) ++ l) after
    ∙ append_assoc front (OPEN ∷ []) tail

-- After an open gate the body's own closed gate ends the file.
opened_file : (front body rest : List ℕ) → ClosesAfter (front ++ OPEN ∷ body) (front ++ OPEN ∷ (body ++ CLOSED ∷ rest))
opened_file front body rest = record { gate = CLOSED; rest = rest; parts = sym (append_assoc front (OPEN ∷ body) (CLOSED ∷ rest)); closed = not_open }

-- With any byte at the gate, it is closed or open.
either_byte : (front body rest : List ℕ) (value : ℕ) → IsClosedOrOpened front body (front ++ value ∷ (body ++ CLOSED ∷ rest))
either_byte front body rest zero = inl record { gate = 0; rest = body ++ CLOSED ∷ rest; parts = refl; closed = λ e. absurd (omega (arith, e)) }
either_byte front body rest (suc zero) = inr (opened_file front body rest)
either_byte front body rest (suc (suc n)) =
    inl record { gate = suc (suc n); rest = body ++ CLOSED ∷ rest; parts = refl; closed = λ e. absurd (omega (arith, e)) }

-- A write of the gate's byte that a crash cuts short leaves what is around it.
pub torn_open : (front body rest : List ℕ) (value place : ℕ) (image : List ℕ) → length front ≡ place
    → TornWrite place 1 (front ++ value ∷ (body ++ CLOSED ∷ rest)) image → IsClosedOrOpened front body image
torn_open front body rest value place image there torn = by (drop place image) refl
  where
    tail : List ℕ
    tail = body ++ CLOSED ∷ rest

    before : take place image ≡ front
    before = torn.before ∙ take_at front (value ∷ (body ++ CLOSED ∷ rest)) place there

    after : drop (place + 1) image ≡ body ++ CLOSED ∷ rest
    after =
        let n : length (front ++ value ∷ []) ≡ place + 1 = omega (arith, there, length-append front (value ∷ [])) in
        torn.after ∙ ap (drop (place + 1)) (sym (append_assoc front (value ∷ []) (body ++ CLOSED ∷ rest)))
        ∙ drop_at (front ++ value ∷ []) (body ++ CLOSED ∷ rest) (place + 1) n

    by : (left : List ℕ) → drop place image ≡ left → IsClosedOrOpened front body image
    by [] e =
        let n : length (drop place image) ≡ 0 = ap length e in
        absurd (omega (arith, n, length-drop place image, torn.no_shorter, there, length-append front (value ∷ (body ++ CLOSED ∷ rest))))
    by (b ∷ more) e =
        let behind : more ≡ body ++ CLOSED ∷ rest = sym (ap (drop 1) e) ∙ drop-drop 1 place image ∙ after in
        let whole : image ≡ front ++ b ∷ (body ++ CLOSED ∷ rest) =
        sym (take-append-drop place image) ∙ ap (λ l. take place image ++ l) e ∙ ap (λ l. l ++ b ∷ more) before ∙ ap (λ l. front ++ b ∷ l) behind
        in
        subst (IsClosedOrOpened front body) (sym whole) (either_byte front body rest b)

-- ---- runs

-- The write after a gate.
pub write_behind : (front : List ℕ) (place n : ℕ) (old new : View) → IsShut front place old
    → LeavesOnly old new (TornWrite (place + 1) n old.seen) → LeavesOnly old new (ClosesAfter front)
write_behind front place n old new shut run = weaker old new (TornWrite (place + 1) n old.seen)
    (ClosesAfter front) run (λ image torn. torn_behind front place n old.seen image shut.place shut.file torn)

-- The write of a gate's byte.
pub write_open : (front body : List ℕ) (place : ℕ) (old new : View) → IsReady front place body old
    → LeavesOnly old new (TornWrite place 1 old.seen) → LeavesOnly old new (IsClosedOrOpened front body)
write_open front body place old new ready run =
    weaker old new (TornWrite place 1 old.seen) (IsClosedOrOpened front body) run
    (λ image torn. torn_open front body ready.rest ready.value place image ready.place (subst (λ l. TornWrite place 1 l image) ready.parts torn))

-- The one and then the other.
pub putting : (front body : List ℕ) (old mid new : View) → LeavesOnly old mid (ClosesAfter front)
    → LeavesOnly mid new (IsClosedOrOpened front body) → LeavesOnly old new (IsClosedOrOpened front body)
putting front body old mid new first second =
    joined old mid new (ClosesAfter front) (IsClosedOrOpened front body) (IsClosedOrOpened front body) first second
    (λ image closes. inl closes) (λ image is. is)

-- ---- what is there at the end

pub ready_now : (front body : List ℕ) (place : ℕ) (bytes : List ℕ) (old new : View) → IsShut front place old
    → bytes ≡ body ++ CLOSED ∷ [] → new.seen ≡ overlay (place + 1) bytes old.seen → IsDurable new → IsReady front place body new
ready_now front body place bytes old new shut is written durable = record {
  place = shut.place;
  value = shut.file.gate;
  rest = drop (place + 1 + length (body ++ CLOSED ∷ [])) (front ++ shut.file.gate ∷ shut.file.rest);
  parts = written ∙ ap (λ b. overlay (place + 1) b old.seen) is ∙ ap (overlay (place + 1) (body ++ CLOSED ∷ [])) shut.file.parts
      ∙ put_behind front body shut.file.gate shut.file.rest place shut.place;
  closed = shut.file.closed;
  durable = durable;
}

pub shut_now : (front body : List ℕ) (place : ℕ) (old new : View) → IsReady front place body old
    → new.seen ≡ overlay place (OPEN ∷ []) old.seen → IsDurable new → IsShut (front ++ OPEN ∷ body) (place + 1 + length body) new
shut_now front body place old new ready written durable =
    let there : new.seen ≡ front ++ OPEN ∷ (body ++ CLOSED ∷ ready.rest) =
    written ∙ ap (overlay place (OPEN ∷ [])) ready.parts ∙ put_open front ready.value (body ++ CLOSED ∷ ready.rest) place ready.place
    in
    record {
      place = omega (arith, ready.place, length-append front (OPEN ∷ body));
      file = subst (ClosesAfter (front ++ OPEN ∷ body)) (sym there) (opened_file front body ready.rest);
      durable = durable;
    }

-- ---- a gate on an empty disk

pub laid_now : (old new : View) → new.seen ≡ overlay 0 (CLOSED ∷ []) old.seen → IsDurable new → IsShut [] 0 new
laid_now old new written durable = record {
  place = refl;
  file = record { gate = CLOSED; rest = drop 1 old.seen; parts = written; closed = not_open };
  durable = durable;
}

pub write_first : (old new : View) → old.seen ≡ [] → LeavesOnly old new (TornWrite 0 1 old.seen) → LeavesOnly old new (λ file. length file ≤ 1)
write_first old new empty run =
    let none : length old.seen ≡ 0 = ap length empty in
    weaker old new (TornWrite 0 1 old.seen) (λ file. length file ≤ 1) run (λ image torn. short (length old.seen) (length image) none torn.no_longer)
  where
    short : (n m : ℕ) → n ≡ 0 → m ≤ max n 1 → m ≤ 1
    short n m none le = omega (arith, none, le)

-- ---- a body after it

pub laid_first : (body : List ℕ) (old mid : View) → LeavesOnly old mid (λ file. length file ≤ 1) → LeavesOnly old mid (IsLaid body)
laid_first body old mid run = weaker old mid (λ file. length file ≤ 1) (IsLaid body) run (λ file is. inl is)

pub laid_put : (body : List ℕ) (old mid new : View) → LeavesOnly old mid (λ file. length file ≤ 1)
    → LeavesOnly mid new (IsClosedOrOpened [] body) → LeavesOnly old new (IsLaid body)
laid_put body old mid new first second =
    joined old mid new (λ file. length file ≤ 1) (IsClosedOrOpened [] body) (IsLaid body) first second (λ file is. inl is) (λ file is. inr is)
