-- The fields of a head, one after another.
use Rattle.std.proofs.Common.{rules, arith, ◌≡◌, ℕ, zero, suc, ◌+◌, ◌-◌, ◌<◌, ◌≤◌, List, ◌++◌, length, take, drop}
use Rattle.std.proofs.Common.{slice_index, refl, ◌∙◌, sym, ap, append_assoc}
use Rattle.std.specs.Prelude.{Some, None, Result, Ok, Err, OnOk}
use Rattle.std.proofs.lemmas.List.{take-append-drop, take_rest}
use Rattle.std.specs.List.{flat_map}
use Rattle.linda_wire.specs.declared.message.Message.{Message}
use Rattle.linda_wire.specs.Frames.{message_frame}
use Rattle.linda_gate_pass.specs.Passing.{BeginsWith}
use Rattle.linda_gate_pass.specs.Head.{field, value_len}

pub field_none : (count wanted : ℕ) (bytes : List ℕ) → count ≡ 0 → field count wanted bytes ≡ None
unfolding field
field_none zero wanted bytes none = refl
field_none (suc count) wanted bytes none = absurd (search (rules, none))

pub field_short : (count wanted : ℕ) (bytes : List ℕ) → length bytes < 3 + value_len bytes → field count wanted bytes ≡ None
unfolding field
field_short zero wanted bytes short = refl
field_short (suc count) wanted bytes short = search (rules, arith, short)

pub field_found : (count wanted : ℕ) (bytes : List ℕ) → (count ≡ 0 → ⊥) → 3 + value_len bytes ≤ length bytes
    → slice_index bytes 0 ≡ wanted → field count wanted bytes ≡ Some (take (value_len bytes) (drop 3 bytes))
unfolding field
field_found zero wanted bytes some long kind = absurd (some refl)
field_found (suc count) wanted bytes some long kind = search (rules, arith, long, kind)

pub field_later : (count wanted : ℕ) (bytes : List ℕ) → (count ≡ 0 → ⊥) → 3 + value_len bytes ≤ length bytes
    → (slice_index bytes 0 ≡ wanted → ⊥) → field count wanted bytes ≡ field (count - 1) wanted (drop (3 + value_len bytes) bytes)
unfolding field
field_later zero wanted bytes some long kind = absurd (some refl)
field_later (suc count) wanted bytes some long kind = search (rules, arith, long, kind)

-- what came after the head was read
pub begin_came : {T E : Type 0} (r : Result T E) (head came : List ℕ) (len : ℕ)
    → OnOk r (came ≡ take (length head - len) (drop len head)) → OnOk r (take len head ++ came ≡ head)
begin_came (Ok v) head came len read = rw (read, take_rest head len) (take-append-drop len head)
begin_came (Err e) head came len read = tt

-- what passed of that is the front of it
pub begin_front : (head : List ℕ) (len : ℕ) (ms : List Message)
    → BeginsWith (take (length head - len) (drop len head)) ms
    → (rest : List ℕ) × (head ≡ take len head ++ (flat_map message_frame ms ++ rest))
begin_front head len ms front = (
  front.0,
  sym (take-append-drop len head)
      ∙ ap (λ (bytes : List ℕ). take len head ++ bytes) (sym (take_rest head len) ∙ front.1),
)

-- after the head what passed is the front of what came
pub later_front : (head came bytes : List ℕ) (ms : List Message) → BeginsWith (came ++ bytes) ms
    → (rest : List ℕ) × ((head ++ came) ++ bytes ≡ head ++ (flat_map message_frame ms ++ rest))
later_front head came bytes ms front =
    (front.0, append_assoc head came bytes ∙ ap (λ (bytes : List ℕ). head ++ bytes) front.1)
