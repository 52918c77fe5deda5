-- What passes: one message after another.
use Rattle.std.proofs.Common.{rules, ◌≡◌, ℕ, true, false, List, [], ◌∷◌, ◌++◌, refl, sym, ap, ◌∙◌, append_assoc}
use Rattle.std.specs.Prelude.{Option}
use Rattle.std.specs.List.{flat_map}
use Rattle.std.proofs.lemmas.List.{append-nil}
use Rattle.std.proofs.lemmas.List.Elements.{All-nil, All-cons, All-append}
use Rattle.std.proofs.lemmas.List.Concat.{flat_map-cons}
use Rattle.std.proofs.lemmas.Grind.{flat_map-append}
use Rattle.linda_wire.specs.declared.message.Message.{Message}
use Rattle.linda_wire.specs.Frames.{message_frame}
use Rattle.linda_gate_pass.specs.declared.client_numbers.ClientNumbers.{ClientNumbers}
use Rattle.linda_gate_pass.specs.Gating.{frames_in, passed_in}
use Rattle.linda_gate_pass.specs.Passing.{is_hello, may_pass, AreOfOne, Passing, Reads, Writes}

-- ---- of one client

pub one_more : (numbers : ClientNumbers) (ms : List Message) (m : Message)
    → AreOfOne numbers ms → may_pass numbers ms m ≡ true → AreOfOne numbers (ms ++ m ∷ [])
one_more numbers [] m one may = (may, All-nil (λ (m : Message). is_hello m ≡ false))
one_more numbers (first ∷ later) m one may =
    let other : is_hello m ≡ false = search (rules, may) in (
      one.0,
      All-append (λ (m : Message). is_hello m ≡ false) later (m ∷ []) one.1
          (All-cons (λ (m : Message). is_hello m ≡ false) m [] other (All-nil (λ (m : Message). is_hello m ≡ false))),
    )

-- ---- what was read

pub reads_none : (passed : List Message) (bytes before : List ℕ) → Reads passed passed bytes bytes before before
reads_none passed bytes before =
    record { more = []; passed = sym (append-nil passed); spelled = refl; written = sym (append-nil before) }

-- the frames of messages and of one more
frames_more : (ms : List Message) (m : Message)
    → flat_map message_frame ms ++ message_frame m ≡ flat_map message_frame (ms ++ m ∷ [])
frames_more ms m =
    let one : message_frame m ≡ flat_map message_frame (m ∷ []) =
    sym (flat_map-cons message_frame m [] ∙ append-nil (message_frame m)) in
    ap (λ (bytes : List ℕ). flat_map message_frame ms ++ bytes) one ∙ sym (flat_map-append message_frame ms (m ∷ []))

pub reads_more : (old mid new : List Message) (m : Message) (bytes left rest before now after : List ℕ)
    → Reads old mid bytes left before now → left ≡ message_frame m ++ rest → new ≡ mid ++ m ∷ []
    → after ≡ now ++ message_frame m → Reads old new bytes rest before after
reads_more old mid new m bytes left rest before now after reads frame pushed put = record {
  more = reads.more ++ m ∷ [];
  passed = pushed ∙ ap (λ (ms : List Message). ms ++ m ∷ []) reads.passed ∙ append_assoc old reads.more (m ∷ []);
  spelled =
      reads.spelled ∙ ap (λ (bytes : List ℕ). flat_map message_frame reads.more ++ bytes) frame
      ∙ sym (append_assoc (flat_map message_frame reads.more) (message_frame m) rest)
      ∙ ap (λ (bytes : List ℕ). bytes ++ rest) (frames_more reads.more m);
  written =
      put ∙ ap (λ (bytes : List ℕ). bytes ++ message_frame m) reads.written
      ∙ append_assoc before (flat_map message_frame reads.more) (message_frame m)
      ∙ ap (λ (bytes : List ℕ). before ++ bytes) (frames_more reads.more m);
}

-- the frames of all that passed, if more was written after nothing
pub frames_then : (old new : Option Passing) (before out : List ℕ) → before ≡ []
    → Writes (passed_in old) (passed_in new) before out → frames_in new ≡ frames_in old ++ out
frames_then old new before out none writes =
    ap (λ (ms : List Message). flat_map message_frame ms) writes.passed ∙ flat_map-append message_frame (passed_in old) writes.more
    ∙ ap (λ (bytes : List ℕ). frames_in old ++ bytes) (sym (writes.written ∙ ap (λ (bytes : List ℕ). bytes ++ flat_map message_frame writes.more) none))
