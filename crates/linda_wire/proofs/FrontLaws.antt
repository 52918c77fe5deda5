-- Laws of the front of a stream, for values of any framed format.
use Rattle.std.proofs.Common.{◌≡◌, ℕ, ◌+◌, ◌≤◌, List, [], ◌∷◌, ◌++◌, length, take, drop, Option, Some, None, Result, Ok}
use Rattle.std.proofs.Common.{Err, refl, sym, ap, subst, ◌∙◌, append_assoc, arith}
use Rattle.std.specs.Prelude.{IfOk, IfErr, IfSome, IsOk, IsErrOf}
use Rattle.std.specs.List.{flat_map, AllByRecursion}
use Rattle.std.proofs.lemmas.List.{take_at, drop_at, take-append-drop, take-append-le, drop-append-le, drop-drop, length-drop, length-take}
use Rattle.std.proofs.lemmas.List.Elements.{recursion_from_All}
use Rattle.linda_codec.specs.Formats.{Format}
use Rattle.linda_codec.specs.Lawful.{IsBytes}
use Rattle.linda_codec.proofs.TakeLaws.{IsBytes-drop, IsBytes-take}
use Rattle.linda_wire.specs.declared.fault.FrameFault.{FrameFault}
use Rattle.linda_wire.specs.declared.fault.FrameFault.TheVariants.{Memory, EmptyFrame, FrameTooLong, Malformed}
use Rattle.linda_wire.specs.Frames.{length_field, told_length, frame}
use Rattle.linda_wire.specs.Stream.{whole_of, IsFramed, payload_len, Front, Whole, Broken, front_with, front_by, front}
use Rattle.linda_wire.specs.Stream.{IsWhole, Answers, HasFrame, IsFaultOf, HasNoValue, stream_of, FaultsStay}
use Rattle.linda_wire.specs.Stream.{HasOneReading}
use Rattle.linda_wire.specs.declared.limits.TheConstants.{LENGTH_BYTES}
use Rattle.linda_wire.proofs.PayloadLaws.{IsFaultOfPayload, whole_takes, whole_again, whole_place}
use Rattle.linda_wire.proofs.LengthLaws.{IsFaultOfLength, payload_len-fault, payload_len-long, IsThere}
use Rattle.linda_wire.proofs.LengthLaws.{length_field-length, length_field-told, payload_there, payload_len-append}
use Rattle.linda_wire.proofs.LengthLaws.{payload_len-broken, payload_len-frame}

-- ---- what is at the front, by cases

front_with_whole : {A : Type 0} (r : Result A FrameFault) (after : List ℕ) (value : A) (rest : List ℕ)
    → front_with r after ≡ Whole value rest → (r ≡ Ok value) × (after ≡ rest)
front_with_whole (Ok v) after value rest e = (cc, cc)
front_with_whole (Err f) after value rest e = absurd cc

front_with_broken : {A : Type 0} (r : Result A FrameFault) (after : List ℕ) (fault : FrameFault) → front_with r after ≡ Broken fault → r ≡ Err fault
front_with_broken (Ok v) after fault e = absurd cc
front_with_broken (Err f) after fault e = cc

-- A value at the front: its payload is there, and is read so.
record IsWholeFrame {A : Type 0} (f : Format A) (bytes : List ℕ) (r : Result (Option ℕ) FrameFault) (value : A) (rest : List ℕ) : Type 0 where
  len : ℕ
  there : r ≡ Ok (Some len)
  value-is : whole_of f (take len (drop LENGTH_BYTES bytes)) ≡ Ok value
  rest-is : drop (LENGTH_BYTES + len) bytes ≡ rest

front_whole : {A : Type 0} (f : Format A) (bytes : List ℕ) (r : Result (Option ℕ) FrameFault) (value : A) (rest : List ℕ)
    → front_by f bytes r ≡ Whole value rest → IsWholeFrame f bytes r value rest
front_whole f bytes (Ok None) value rest e = absurd cc
front_whole f bytes (Ok (Some len)) value rest e =
    let w = front_with_whole (whole_of f (take len (drop LENGTH_BYTES bytes))) (drop (LENGTH_BYTES + len) bytes) value rest e in
    record { len = len; there = refl; value-is = w.0; rest-is = w.1 }
front_whole f bytes (Err told) value rest e = absurd cc

-- A fault at the front: of the length, or of a payload that is there.
data IsBroken {A : Type 0} (f : Format A) (bytes : List ℕ) (r : Result (Option ℕ) FrameFault) (fault : FrameFault) : Type 0 where
  in_length : r ≡ Err fault → IsBroken f bytes r fault
  in_payload : (len : ℕ) → r ≡ Ok (Some len) → whole_of f (take len (drop LENGTH_BYTES bytes)) ≡ Err fault → IsBroken f bytes r fault

front_broken : {A : Type 0} (f : Format A) (bytes : List ℕ) (r : Result (Option ℕ) FrameFault) (fault : FrameFault)
    → front_by f bytes r ≡ Broken fault → IsBroken f bytes r fault
front_broken f bytes (Ok None) fault e = absurd cc
front_broken f bytes (Ok (Some len)) fault e =
    in_payload len refl (front_with_broken (whole_of f (take len (drop LENGTH_BYTES bytes))) (drop (LENGTH_BYTES + len) bytes) fault e)
front_broken f bytes (Err told) fault e = in_length cc

fault_of_length : (bytes : List ℕ) (fault : FrameFault) → LENGTH_BYTES ≤ length bytes → IsFaultOfLength (told_length bytes) fault → IsFaultOf bytes fault
fault_of_length bytes Memory long h = absurd h
fault_of_length bytes EmptyFrame long h = (long, h)
fault_of_length bytes (FrameTooLong n) long h = (long, h.0, h.1)
fault_of_length bytes (Malformed at) long h = absurd h

fault_of_payload : (bytes : List ℕ) (fault : FrameFault) → HasFrame bytes → IsFaultOfPayload (told_length bytes) fault → IsFaultOf bytes fault
fault_of_payload bytes Memory there h = absurd h
fault_of_payload bytes EmptyFrame there h = absurd h
fault_of_payload bytes (FrameTooLong n) there h = absurd h
fault_of_payload bytes (Malformed at) there h = (there, h.0, h.1)

-- A payload that is there is in a frame that is there.
has_frame : (bytes : List ℕ) (len : ℕ) → payload_len bytes ≡ Ok (Some len) → HasFrame bytes
has_frame bytes len h =
    let there = payload_there bytes len h in
    (omega (arith, there.some, there.told-is), omega (arith, there.short, there.told-is), omega (arith, there.all, there.told-is))

-- ---- the laws

-- A frame that is there: the bytes are the frame of its payload, and the bytes after it.
parts_of : (bytes : List ℕ) (len : ℕ) → IsBytes bytes → IsThere (length bytes) (told_length bytes) len
    → bytes ≡ frame (take len (drop LENGTH_BYTES bytes)) ++ drop (LENGTH_BYTES + len) bytes
parts_of bytes len fits there =
    let payload : List ℕ = take len (drop LENGTH_BYTES bytes) in
    let len-is : length payload ≡ told_length bytes =
    omega (arith, there.all, there.told-is, length-take len (drop LENGTH_BYTES bytes), length-drop LENGTH_BYTES bytes) in
    let field : length_field (length payload) ≡ take LENGTH_BYTES bytes = ap length_field len-is ∙ length_field-told bytes fits (omega (arith, there.all)) in
    let behind : payload ++ drop (LENGTH_BYTES + len) bytes ≡ drop LENGTH_BYTES bytes =
    ap (λ (b : List ℕ). payload ++ b) (sym (drop-drop len LENGTH_BYTES bytes)) ∙ take-append-drop len (drop LENGTH_BYTES bytes) in
    sym (append_assoc (length_field (length payload)) payload (drop (LENGTH_BYTES + len) bytes)
    ∙ ap (λ (a : List ℕ). a ++ (payload ++ drop (LENGTH_BYTES + len) bytes)) field
    ∙ ap (λ (b : List ℕ). take LENGTH_BYTES bytes ++ b) behind ∙ take-append-drop LENGTH_BYTES bytes)

-- What is read is at the front, as it is spelled.
front_takes : {A : Type 0} (f : Format A) → IsFramed f
    → (bytes : List ℕ) (value : A) (rest : List ℕ) → IsBytes bytes → front f bytes ≡ Whole value rest → (bytes ≡ frame (f.spell value) ++ rest) × f.Fits value
front_takes f is bytes value rest fits e =
    let w = front_whole f bytes (payload_len bytes) value rest e in
    let payload : List ℕ = take w.len (drop LENGTH_BYTES bytes) in
    let parts = parts_of bytes w.len fits (payload_there bytes w.len w.there) in
    let t = whole_takes f is.lawful payload value (IsBytes-take w.len (drop LENGTH_BYTES bytes) (IsBytes-drop LENGTH_BYTES bytes fits)) w.value-is in
    (parts ∙ ap (λ (p : List ℕ). frame p ++ drop (LENGTH_BYTES + w.len) bytes) t.0 ∙ ap (λ (r : List ℕ). frame (f.spell value) ++ r) w.rest-is, t.1)

-- What is spelled at the front is read, whatever comes after it.
pub front_again : {A : Type 0} (f : Format A) → IsFramed f
    → (value : A) (rest : List ℕ) → f.Fits value → front f (frame (f.spell value) ++ rest) ≡ Whole value rest
front_again f is value rest fits =
    let payload : List ℕ = f.spell value in
    let field : List ℕ = length_field (length payload) in
    let there = payload_len-frame payload rest (is.sized value fits).some (is.sized value fits).short in
    let apart : frame payload ++ rest ≡ field ++ (payload ++ rest) = append_assoc field payload rest in
    let behind : drop LENGTH_BYTES (frame payload ++ rest) ≡ payload ++ rest =
    rw apart (drop_at field (payload ++ rest) LENGTH_BYTES (length_field-length (length payload))) in
    let first : take (length payload) (drop LENGTH_BYTES (frame payload ++ rest)) ≡ payload = rw behind (take_at payload rest (length payload) refl) in
    let after : drop (LENGTH_BYTES + length payload) (frame payload ++ rest) ≡ rest =
    sym (drop-drop (length payload) LENGTH_BYTES (frame payload ++ rest)) ∙ rw behind (drop_at payload rest (length payload) refl) in
    rw (there, first, after, whole_again f is.lawful value fits) refl

-- A fault stays, whatever comes after it.
pub broken_stays : {A : Type 0} (f : Format A) → FaultsStay f
broken_stays f bytes more fault e =
    elim (front_broken f bytes (payload_len bytes) fault e) [
      | in_length h ↦ rw (payload_len-broken bytes more fault h) refl
      | in_payload len h told ↦
          let there = payload_there bytes len h in
          let behind : drop LENGTH_BYTES (bytes ++ more) ≡ drop LENGTH_BYTES bytes ++ more =
          drop-append-le LENGTH_BYTES bytes more (omega (arith, there.all)) in
          let same : take len (drop LENGTH_BYTES (bytes ++ more)) ≡ take len (drop LENGTH_BYTES bytes) =
          rw behind (take-append-le len (drop LENGTH_BYTES bytes) more (omega (arith, there.all, length-drop LENGTH_BYTES bytes))) in
          rw (payload_len-append bytes more len h, same, told) refl
    ]

-- Each fault at the front is one of its frame.
is_fault_of : {A : Type 0} (f : Format A) → IsFramed f → (bytes : List ℕ) (fault : FrameFault) → front f bytes ≡ Broken fault → IsFaultOf bytes fault
is_fault_of f is bytes fault e =
    elim (front_broken f bytes (payload_len bytes) fault e) [
      | in_length h ↦ fault_of_length bytes fault (payload_len-long bytes fault h) (payload_len-fault bytes fault h)
      | in_payload len h told ↦
          let there = payload_there bytes len h in
          let payload : List ℕ = take len (drop LENGTH_BYTES bytes) in
          let count : length payload ≡ told_length bytes =
          omega (arith, there.all, there.told-is, length-take len (drop LENGTH_BYTES bytes), length-drop LENGTH_BYTES bytes) in
          fault_of_payload bytes fault (has_frame bytes len h) (subst (λ (n : ℕ). IsFaultOfPayload n fault) count (whole_place f is.lawful payload fault told))
    ]

-- ---- the answers of a feed

-- If a value is at the front, all of its frame is there.
pub whole_has_frame : {A : Type 0} (f : Format A) (bytes : List ℕ) → IsWhole (front f bytes) → HasFrame bytes
whole_has_frame f bytes whole = by_length f bytes (payload_len bytes) refl whole
  where
    by_length : {A : Type 0} (f : Format A) (bytes : List ℕ) (r : Result (Option ℕ) FrameFault)
        → payload_len bytes ≡ r → IsWhole (front_by f bytes r) → HasFrame bytes
    by_length f bytes (Ok None) e whole = absurd whole
    by_length f bytes (Ok (Some len)) e whole = has_frame bytes len e
    by_length f bytes (Err fault) e whole = absurd whole

-- If a payload that is there spells a value, that value is at the front.
pub is_whole : {A : Type 0} (f : Format A) (bytes : List ℕ) (len : ℕ) → payload_len bytes ≡ Ok (Some len)
    → IsOk (whole_of f (take len (drop LENGTH_BYTES bytes))) → IsWhole (front f bytes)
is_whole f bytes len there ok = rw there (spelled (whole_of f (take len (drop LENGTH_BYTES bytes))) (drop (LENGTH_BYTES + len) bytes) ok)
  where
    spelled : {A : Type 0} (r : Result A FrameFault) (rest : List ℕ) → IsOk r → IsWhole (front_with r rest)
    spelled (Ok value) rest ok = tt
    spelled (Err fault) rest ok = absurd cc

-- A fault that is answered is one of the frame at the front.
pub told_of_front : {A : Type 0} (f : Format A) → IsFramed f → (old : List ℕ) (answer : Result (Option A) FrameFault) (new : List ℕ)
    → (IsErrOf answer Memory → IsWhole (front f old)) → Answers (front f) old answer new
    → IfErr answer (λ fault. IsFaultOf old fault)
told_of_front f is old (Ok o) new there e = tt
told_of_front f is old (Err Memory) new there e = whole_has_frame f old (there refl)
told_of_front f is old (Err EmptyFrame) new there e = is_fault_of f is old EmptyFrame (e.0 (λ m. cc))
told_of_front f is old (Err (FrameTooLong n)) new there e = is_fault_of f is old (FrameTooLong n) (e.0 (λ m. cc))
told_of_front f is old (Err (Malformed at)) new there e = is_fault_of f is old (Malformed at) (e.0 (λ m. cc))

-- A fault of the length is one of the frame at the front.
pub told_of_length : (old bytes : List ℕ) (fault : FrameFault) → bytes ≡ old → payload_len bytes ≡ Err fault → IsFaultOf old fault
told_of_length old bytes fault e told =
    subst (λ (b : List ℕ). IsFaultOf b fault) e (fault_of_length bytes fault (payload_len-long bytes fault told) (payload_len-fault bytes fault told))

-- A value that was read was at the front, as it is spelled.
pub found_at_front : {A : Type 0} (f : Format A) → IsFramed f → (old : List ℕ) (answer : Result (Option A) FrameFault) (new : List ℕ)
    → IsBytes old → Answers (front f) old answer new
    → IfOk answer (λ o. IfSome o (λ value. (old ≡ frame (f.spell value) ++ new) × f.Fits value))
found_at_front f is old (Ok (Some value)) new fits e = front_takes f is old value new fits e
found_at_front f is old (Ok None) new fits e = tt
found_at_front f is old (Err fault) new fits e = tt

-- ---- one reading

abbrev whole_at : {A : Type 0} → A → List ℕ → Front A
whole_at value rest = Whole value rest

same_whole : {A : Type 0} (a : A) (r : List ℕ) (b : A) (s : List ℕ) → whole_at a r ≡ whole_at b s → (a ≡ b) × (r ≡ s)
same_whole a r b s e = (cc, cc)

none_is_read : {A : Type 0} (f : Format A) (bytes : List ℕ) (value : A) (rest : List ℕ) → HasNoValue (front f bytes) → front f bytes ≡ Whole value rest → ⊥
none_is_read f bytes value rest none e = subst HasNoValue e none

same_values : {A : Type 0} (f : Format A) → IsFramed f → (these those : List A) (rest other : List ℕ)
    → AllByRecursion f.Fits these → AllByRecursion f.Fits those → HasNoValue (front f rest) → HasNoValue (front f other)
    → stream_of f these rest ≡ stream_of f those other → (these ≡ those) × (rest ≡ other)
same_values f is [] [] rest other fits fits' p q e = (refl, e)
same_values f is [] (n ∷ ns) rest other fits fits' p q e =
    let read = front_again f is n (stream_of f ns other) fits'.0 in
    let whole : rest ≡ frame (f.spell n) ++ stream_of f ns other = e ∙ append_assoc (frame (f.spell n)) (flat_map (λ value. frame (f.spell value)) ns) other in
    absurd (none_is_read f rest n (stream_of f ns other) p (ap (front f) whole ∙ read))
same_values f is (m ∷ ms) [] rest other fits fits' p q e =
    let read = front_again f is m (stream_of f ms rest) fits.0 in
    let whole : other ≡ frame (f.spell m) ++ stream_of f ms rest = sym e
    ∙ append_assoc (frame (f.spell m)) (flat_map (λ value. frame (f.spell value)) ms) rest in
    absurd (none_is_read f other m (stream_of f ms rest) q (ap (front f) whole ∙ read))
same_values f is (m ∷ ms) (n ∷ ns) rest other fits fits' p q e =
    let fm = front_again f is m (stream_of f ms rest) fits.0 in
    let fn = front_again f is n (stream_of f ns other) fits'.0 in
    let em : stream_of f (m ∷ ms) rest ≡ frame (f.spell m) ++ stream_of f ms rest =
    append_assoc (frame (f.spell m)) (flat_map (λ value. frame (f.spell value)) ms) rest in
    let en : stream_of f (n ∷ ns) other ≡ frame (f.spell n) ++ stream_of f ns other =
    append_assoc (frame (f.spell n)) (flat_map (λ value. frame (f.spell value)) ns) other in
    let both = same_whole m (stream_of f ms rest) n (stream_of f ns other) (sym fm ∙ ap (front f) (sym em ∙ e ∙ en) ∙ fn) in
    let others = same_values f is ms ns rest other fits.1 fits'.1 p q both.1 in
    (ap (λ x. x ∷ ms) both.0 ∙ ap (λ xs. n ∷ xs) others.0, others.1)

-- A stream has one reading.
pub one_reading : {A : Type 0} (f : Format A) → IsFramed f → HasOneReading f
one_reading f is these those rest other fits fits' p q e =
    same_values f is these those rest other (recursion_from_All f.Fits these fits) (recursion_from_All f.Fits those fits') p q e
