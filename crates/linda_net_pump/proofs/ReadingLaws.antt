-- Streams that are read on, and messages that are taken one batch after another.
use Rattle.std.proofs.Common.{◌≡◌, ℕ, ◌+◌, ◌≤◌, suc, arith, List, [], ◌∷◌, ◌++◌, length, take, refl, ◌∙◌, sym, ap, append_assoc, subst}
use Rattle.std.specs.Prelude.{Some, None}
use Rattle.std.specs.List.{flat_map}
use Rattle.std.proofs.lemmas.List.{append-nil, length-append}
use Rattle.std.proofs.lemmas.List.Elements.{All-nil, All-cons, All-append}
use Rattle.std.proofs.lemmas.List.Concat.{flat_map-cons}
use Rattle.std.proofs.lemmas.Grind.{flat_map-append}
use Rattle.linda_wire.specs.declared.message.Message.{Message}
use Rattle.linda_wire.specs.Frames.{message_frame, FitsMessage}
use Rattle.linda_net_pump.specs.Pumping.{IsReading, ReadsOn, Known, Takes, TakesSome}

-- nothing was read yet
pub reading_begins : (bytes : List ℕ) → IsReading bytes [] bytes
reading_begins bytes = record { fit = All-nil FitsMessage; spelled = refl }

-- messages, and then those that what they left spells
pub reading_then : (bytes mid rest : List ℕ) (ms ns : List Message)
    → IsReading bytes ms mid → IsReading mid ns rest → IsReading bytes (ms ++ ns) rest
reading_then bytes mid rest ms ns first second = record {
  fit = All-append FitsMessage ms ns first.fit second.fit;
  spelled =
      first.spelled ∙ ap (λ later. flat_map message_frame ms ++ later) second.spelled
      ∙ sym (append_assoc (flat_map message_frame ms) (flat_map message_frame ns) rest)
      ∙ ap (λ bytes. bytes ++ rest) (sym (flat_map-append message_frame ms ns));
}

-- messages, and then those that what they left spells with more bytes after it
pub reading_fed : (bytes piece mid rest : List ℕ) (ms ns : List Message)
    → IsReading bytes ms mid → IsReading (mid ++ piece) ns rest → IsReading (bytes ++ piece) (ms ++ ns) rest
reading_fed bytes piece mid rest ms ns first second =
    reading_then (bytes ++ piece) (mid ++ piece) rest ms ns (record {
      fit = first.fit;
      spelled = ap (λ bytes. bytes ++ piece) first.spelled ∙ append_assoc (flat_map message_frame ms) mid piece;
    }) second

-- one message
pub reading_one : (bytes rest : List ℕ) (m : Message)
    → (bytes ≡ message_frame m ++ rest) × FitsMessage m → IsReading bytes (m ∷ []) rest
reading_one bytes rest m frame = record {
  fit = All-cons FitsMessage m [] frame.1 (All-nil FitsMessage);
  spelled = frame.0 ∙ ap (λ bytes. bytes ++ rest) (sym (flat_map-cons message_frame m [] ∙ append-nil (message_frame m)));
}

-- ---- messages after a first one

pub reads_none : (bytes : List ℕ) (first : Message) → ReadsOn bytes bytes first (first ∷ [])
reads_none bytes first = ([], (refl, reading_begins bytes))

pub reads_more : (bytes mid rest : List ℕ) (first m : Message) (messages now : List Message)
    → ReadsOn bytes mid first messages → (mid ≡ message_frame m ++ rest) × FitsMessage m → now ≡ messages ++ m ∷ []
    → ReadsOn bytes rest first now
reads_more bytes mid rest first m messages now before frame now_is = (
  before.0 ++ m ∷ [],
  (
    now_is ∙ ap (λ messages. messages ++ m ∷ []) before.1.0,
    reading_then bytes mid rest before.0 (m ∷ []) before.1.1 (reading_one mid rest m frame),
  ),
)

-- a message, and those after it
pub reading_batch : (bytes mid rest : List ℕ) (first : Message) (messages : List Message)
    → (bytes ≡ message_frame first ++ mid) × FitsMessage first → ReadsOn mid rest first messages → IsReading bytes messages rest
reading_batch bytes mid rest first messages frame more =
    subst (λ (messages : List Message). IsReading bytes messages rest) (sym more.1.0)
    (reading_then bytes mid rest (first ∷ []) more.0 (reading_one bytes mid first frame) more.1.1)

-- ---- what was taken

pub takes_none : (known : Known) → Takes known known []
takes_none None = tt
takes_none (Some ms) = sym (append-nil ms)

pub takes_then : (old mid new : Known) (ms ns : List Message) → Takes old mid ms → Takes mid new ns → Takes old new (ms ++ ns)
takes_then None mid new ms ns first second = tt
takes_then (Some a) None new ms ns first second = absurd first
takes_then (Some a) (Some b) None ms ns first second = absurd second
takes_then (Some a) (Some b) (Some c) ms ns first second =
    second ∙ ap (λ b. b ++ ns) first ∙ append_assoc a ms ns

-- all of some messages, and then the first ones of others, are the first ones of all
pub take_then : (ms ns : List Message) (count : ℕ) → ms ++ take count ns ≡ take (length ms + count) (ms ++ ns)
take_then [] ns count = let e : length {A = Message} [] + count ≡ count = omega arith in rw e refl
take_then (m ∷ ms) ns count =
    let e : length (m ∷ ms) + count ≡ suc (length ms + count) = omega arith in
    rw e (ap (λ later. m ∷ later) (take_then ms ns count))

pub takes_then_some : (old mid new : Known) (ms ns : List Message)
    → Takes old mid ms → TakesSome mid new ns → TakesSome old new (ms ++ ns)
takes_then_some old mid new ms ns first second = (
  length ms + second.0,
  subst (λ (messages : List Message). Takes old new messages) (take_then ms ns second.0)
      (takes_then old mid new ms (take second.0 ns) first second.1),
)

-- none of the messages
pub takes_no_more : (known : Known) (ms : List Message) → TakesSome known known ms
takes_no_more known ms = (0, takes_none known)

-- what is left is not longer
pub left_shorter : (bytes mid front rest : List ℕ) → length mid ≤ length bytes → mid ≡ front ++ rest → length rest ≤ length bytes
left_shorter bytes mid front rest within spelled =
    let longer : length rest ≤ length (front ++ rest) = omega (arith, length-append front rest) in
    let same : length mid ≡ length (front ++ rest) = ap length spelled in
    omega (arith, longer, same, within)
