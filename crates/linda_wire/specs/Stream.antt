-- Streams of frames: what is at the front of one, for values of any format.
use Rattle.std.specs.Prelude.{◌≡◌, ◌≢◌, ℕ, suc, ◌+◌, ◌-◌, ◌<◌, ◌≤◌, List, [], ◌∷◌, ◌++◌, All}
use Rattle.std.specs.Prelude.{length, take, drop, Option, Some, None, Result, Ok, Err, IsOk, nat_lt}
use Rattle.std.specs.Prelude.{◌==◌, if◌then◌else◌}
use Rattle.std.specs.List.{flat_map}
use Rattle.linda_codec.specs.declared.fault.ReadFault.{ReadFault}
use Rattle.linda_codec.specs.declared.fault.ReadFault.TheVariants as reading
use Rattle.linda_codec.specs.Steps.{Read}
use Rattle.linda_codec.specs.Formats.{Format}
use Rattle.linda_codec.specs.Lawful.{IsFormat}
use Rattle.linda_wire.specs.declared.fault.FrameFault.{FrameFault}
use Rattle.linda_wire.specs.declared.fault.FrameFault.TheVariants.{Memory, EmptyFrame, FrameTooLong}
use Rattle.linda_wire.specs.declared.fault.FrameFault.TheVariants.{Malformed}
use Rattle.linda_wire.specs.declared.limits.TheConstants.{LENGTH_BYTES, MAX_PAYLOAD}
use Rattle.linda_wire.specs.declared.message.Message.{Message}
use Rattle.linda_wire.specs.declared.reply.Reply.{Reply}
use Rattle.linda_wire.specs.Frames.{told_length, frame, message, reply}
use Rattle.linda_wire.specs.FrameLaws.{IsPayload}

-- ---- payloads

-- A fault in a payload of so many bytes, given by how many of them are left from it on: its offset
-- in the frame.
abbrev pub malformed_with : ℕ → ℕ → FrameFault
malformed_with len left = Malformed (LENGTH_BYTES + len - left)

-- A fault of a value in a payload of so many bytes, as a fault of the frame; if the value is cut
-- short it is reported at the frame's end.
abbrev pub frame_fault : ℕ → ReadFault → FrameFault
frame_fault len reading.Memory = Memory
frame_fault len reading.Short = malformed_with len 0
frame_fault len (reading.BadKind left) = malformed_with len left
frame_fault len (reading.BadBool left) = malformed_with len left
frame_fault len (reading.BadText left) = malformed_with len left
frame_fault len (reading.TooMany left) = malformed_with len left
frame_fault len (reading.LongText left) = malformed_with len left

-- A value read from a payload of so many bytes, after which no byte may be left over.
abbrev pub with_no_rest : {A : Type 0} → ℕ → A → List ℕ → Result A FrameFault
with_no_rest len value [] = Ok value
with_no_rest len value (first ∷ rest) = Err (malformed_with len (suc (length rest)))

-- What was read from a payload of so many bytes, as what is in a frame.
abbrev pub in_frame : {A : Type 0} → ℕ → Read A → Result A FrameFault
in_frame len (Ok x) = with_no_rest len x.0 x.1
in_frame len (Err fault) = Err (frame_fault len fault)

-- The value that a payload spells, all of it, or the frame's fault.
abbrev pub whole_of : {A : Type 0} → Format A → List ℕ → Result A FrameFault
whole_of f payload = in_frame (length payload) (f.read payload)

-- A lawful format whose spellings are payloads.
pub record IsFramed {A : Type 0} (f : Format A) : Type 0 where
  pub lawful : IsFormat f
  pub sized : (value : A) → f.Fits value → IsPayload (f.spell value)

-- What the code returned is what is there, unless memory ran out.
abbrev pub GivesWhole : {A : Type 0} → Result A FrameFault → Result A FrameFault → Type 0
GivesWhole (Ok value) there = there ≡ Ok value
GivesWhole (Err fault) there = fault ≢ Memory → there ≡ Err fault

-- What the code returned says whether a value is there, and which fault if not; it takes no memory,
-- so none can run out.
abbrev pub Judges : {U A : Type 0} → Result U FrameFault → Result A FrameFault → Type 0
Judges (Ok unit) there = IsOk there
Judges (Err fault) there = (fault ≢ Memory) × (there ≡ Err fault)

-- ---- the front of a stream

-- How long the payload of the first frame is; None while not all of the frame is there.
unfoldable pub payload_len : List ℕ → Result (Option ℕ) FrameFault
payload_len bytes =
    if nat_lt (length bytes) LENGTH_BYTES then Ok None
    else if told_length bytes == 0 then Err EmptyFrame
    else if nat_lt MAX_PAYLOAD (told_length bytes) then Err (FrameTooLong (told_length bytes))
    else if nat_lt (length bytes) (LENGTH_BYTES + told_length bytes) then Ok None
    else Ok (Some (told_length bytes))

-- What is at the front of a stream: less than a whole frame, a value and the bytes after its frame,
-- or a fault.
pub data Front (A : Type 0) : Type 0 where
  Partial : Front A
  Whole : (value : A) → (rest : List ℕ) → Front A
  Broken : (fault : FrameFault) → Front A

-- What a payload's reading and the bytes after the payload make of the front.
abbrev pub front_with : {A : Type 0} → Result A FrameFault → List ℕ → Front A
front_with (Ok value) rest = Whole value rest
front_with (Err fault) rest = Broken fault

-- What is at the front, the payload's length being known.
abbrev pub front_by : {A : Type 0} → Format A → List ℕ → Result (Option ℕ) FrameFault → Front A
front_by f bytes (Ok None) = Partial
front_by f bytes (Ok (Some len)) =
    front_with (whole_of f (take len (drop LENGTH_BYTES bytes))) (drop (LENGTH_BYTES + len) bytes)
front_by f bytes (Err fault) = Broken fault

-- What is at the front of a stream of values of this format.
abbrev pub front : {A : Type 0} → Format A → List ℕ → Front A
front f bytes = front_by f bytes (payload_len bytes)

-- What is at the front of a stream of messages.
abbrev pub message_front : List ℕ → Front Message
message_front = front message

-- What is at the front of a stream of replies.
abbrev pub reply_front : List ℕ → Front Reply
reply_front = front reply

-- A value is at the front.
abbrev pub IsWhole : {A : Type 0} → Front A → Type 0
IsWhole Partial = ⊥
IsWhole (Whole value rest) = Unit {0}
IsWhole (Broken fault) = ⊥

-- No value is at the front.
abbrev pub HasNoValue : {A : Type 0} → Front A → Type 0
HasNoValue Partial = Unit {0}
HasNoValue (Whole value rest) = ⊥
HasNoValue (Broken fault) = Unit {0}

-- The answer to a call for the next value: what is at the front, which is taken off if it is a
-- value. A fault changes nothing, nor does `Memory`.
abbrev pub Answers : {A : Type 0} → (List ℕ → Front A) → List ℕ → Result (Option A) FrameFault
    → List ℕ → Type 0
Answers at_front old (Ok (Some value)) new = at_front old ≡ Whole value new
Answers at_front old (Ok None) new = (at_front old ≡ Partial) × (new ≡ old)
Answers at_front old (Err fault) new = (fault ≢ Memory → at_front old ≡ Broken fault) × (new ≡ old)

-- All of a frame is at the front, and its length is within its limits.
abbrev pub HasFrame : List ℕ → Type 0
HasFrame bytes =
    (0 < told_length bytes) × (told_length bytes ≤ MAX_PAYLOAD)
    × (LENGTH_BYTES + told_length bytes ≤ length bytes)

-- What a fault says of the frame at the front: of its length, once that is there, that it is 0 or
-- too great; else, once all of the frame is there, that memory runs out for it, or an offset from
-- its kind to its end.
abbrev pub IsFaultOf : List ℕ → FrameFault → Type 0
IsFaultOf bytes Memory = HasFrame bytes
IsFaultOf bytes EmptyFrame = (LENGTH_BYTES ≤ length bytes) × (told_length bytes ≡ 0)
IsFaultOf bytes (FrameTooLong len) =
    (LENGTH_BYTES ≤ length bytes) × (told_length bytes ≡ len) × (MAX_PAYLOAD < len)
IsFaultOf bytes (Malformed at) =
    HasFrame bytes × (LENGTH_BYTES ≤ at) × (at ≤ LENGTH_BYTES + told_length bytes)

-- ---- whole streams

-- The frames of values, one after the other, and the bytes after them.
abbrev pub stream_of : {A : Type 0} → Format A → List A → List ℕ → List ℕ
stream_of f values rest = flat_map (λ value. frame (f.spell value)) values ++ rest

-- A fault at the front stays there, whatever comes after it.
abbrev pub FaultsStay : {A : Type 0} → Format A → Type 0
FaultsStay f =
    (bytes more : List ℕ) (fault : FrameFault) → front f bytes ≡ Broken fault
    → front f (bytes ++ more) ≡ Broken fault

-- Two lists of values, each before bytes with no value at their front: if all the bytes are the
-- same, so are the values and the bytes after them.
abbrev pub HasOneReading : {A : Type 0} → Format A → Type 0
HasOneReading {A = A} f =
    (these those : List A) (rest other : List ℕ) → All f.Fits these → All f.Fits those
    → HasNoValue (front f rest) → HasNoValue (front f other)
    → stream_of f these rest ≡ stream_of f those other → (these ≡ those) × (rest ≡ other)
