-- The formats of messages and replies, and the frames that they are in.
use Rattle.std.specs.Prelude.{ℕ, Bool, List, [], ◌∷◌, ◌++◌, length, take}
use Rattle.std.specs.Int.{w32, to_be_bytes, from_be_bytes}
use Rattle.linda_tuple.specs.declared.form.Form.{Form}
use Rattle.linda_tuple.specs.declared.form.Form.TheVariants.{Two}
use Rattle.linda_tuple.specs.Tuple.{Tuple}
use Rattle.linda_tuple.specs.Template.{Template}
use Rattle.linda_codec.specs.Steps.{Reader}
use Rattle.linda_codec.specs.Formats.{Format, byte, short_number, number, truth, both}
use Rattle.linda_codec.specs.Formats.{made_at, no_kind, body_at, choice_at}
use Rattle.linda_codec.specs.Values as value
use Rattle.linda_wire.specs.declared.kinds.TheConstants as kind
use Rattle.linda_wire.specs.declared.limits.TheConstants.{LENGTH_BYTES}
use Rattle.linda_wire.specs.declared.message.Message.{Message}
use Rattle.linda_wire.specs.declared.message.Message.TheVariants.{Hello, Out, Ask, Accept, Cancel}
use Rattle.linda_wire.specs.declared.message.Message.TheVariants.{Leave}
use Rattle.linda_wire.specs.declared.reply.Reply.{Reply}
use Rattle.linda_wire.specs.declared.reply.Reply.TheVariants.{Welcome, Stored, Offer, Read, Taken}
use Rattle.linda_wire.specs.declared.reply.Reply.TheVariants.{Gone, Refused, Left}

-- ---- values

-- The form in which frames spell values.
abbrev pub spoken : Form
spoken = Two

-- What is made of two values, and of three.
abbrev pub of_two : {A B M : Type 0} → (A → B → M) → A × B → M
of_two make p = make p.0 p.1

abbrev pub of_three : {A B C M : Type 0} → (A → B → C → M) → A × (B × C) → M
of_three make p = make p.0 p.1.0 p.1.1

-- ---- frames

-- The bytes that give a frame's length.
unfoldable pub length_field : ℕ → List ℕ
length_field n = to_be_bytes w32 n

-- The number that the first bytes give.
unfoldable pub told_length : List ℕ → ℕ
told_length bytes = from_be_bytes w32 (take LENGTH_BYTES bytes)

-- The frame of a payload, which is a kind byte and a body: the payload's length, and the payload.
abbrev pub frame : List ℕ → List ℕ
frame payload = length_field (length payload) ++ payload

-- ---- messages

-- The version, the client's number, whether it has kept nothing.
abbrev pub hello : Format (ℕ × (ℕ × Bool))
hello = both byte (both short_number truth)

-- The number and the tuple.
abbrev pub out : Format (ℕ × Tuple)
out = both number (value.tuple spoken)

-- The ticket, whether the tuple is to be taken, the template.
abbrev pub ask : Format (ℕ × (Bool × Template))
ask = both number (both truth (value.template spoken))

-- The number, the ticket, the tuple's id.
abbrev pub accept : Format (ℕ × (ℕ × ℕ))
accept = both number (both number number)

-- A message's kind byte and body.
abbrev pub spell_message : Message → List ℕ
spell_message (Hello version client fresh) = kind.HELLO ∷ hello.spell (version, (client, fresh))
spell_message (Out n tuple) = kind.OUT ∷ out.spell (n, tuple)
spell_message (Ask ticket remove template) = kind.ASK ∷ ask.spell (ticket, (remove, template))
spell_message (Accept n ticket id) = kind.ACCEPT ∷ accept.spell (n, (ticket, id))
spell_message (Cancel ticket) = kind.CANCEL ∷ number.spell ticket
spell_message (Leave n) = kind.LEAVE ∷ number.spell n

-- What has a spelling among messages: numbers of their widths, and a tuple or template within its
-- limits.
abbrev pub FitsMessage : Message → Type 0
FitsMessage (Hello version client fresh) = hello.Fits (version, (client, fresh))
FitsMessage (Out n tuple) = out.Fits (n, tuple)
FitsMessage (Ask ticket remove template) = ask.Fits (ticket, (remove, template))
FitsMessage (Accept n ticket id) = accept.Fits (n, (ticket, id))
FitsMessage (Cancel ticket) = number.Fits ticket
FitsMessage (Leave n) = number.Fits n

-- The kinds of messages, each with its body.
abbrev pub message_kinds : List (ℕ × Reader Message)
message_kinds =
    (kind.HELLO, made_at (of_three Hello) hello) ∷ (kind.OUT, made_at (of_two Out) out)
    ∷ (kind.ASK, made_at (of_three Ask) ask) ∷ (kind.ACCEPT, made_at (of_three Accept) accept)
    ∷ (kind.CANCEL, made_at Cancel number) ∷ (kind.LEAVE, made_at Leave number) ∷ []

-- What is after the kind byte of a message.
abbrev pub message_body_at : ℕ → Reader Message
message_body_at = body_at message_kinds no_kind

abbrev pub message : Format Message
message =
    record { spell = spell_message; Fits = FitsMessage; read = choice_at message_kinds no_kind }

-- A message's frame.
abbrev pub message_frame : Message → List ℕ
message_frame m = frame (spell_message m)

-- ---- replies

-- The number and the tuple's id.
abbrev pub stored : Format (ℕ × ℕ)
stored = both number number

-- The ticket or the number, the tuple's id, the tuple.
abbrev pub entry : Format (ℕ × (ℕ × Tuple))
entry = both number (both number (value.tuple spoken))

-- The code, the detail.
abbrev pub refusal : Format (ℕ × ℕ)
refusal = both byte number

-- A reply's kind byte and body.
abbrev pub spell_reply : Reply → List ℕ
spell_reply (Welcome last) = kind.WELCOME ∷ number.spell last
spell_reply (Stored n id) = kind.STORED ∷ stored.spell (n, id)
spell_reply (Offer ticket id tuple) = kind.OFFER ∷ entry.spell (ticket, (id, tuple))
spell_reply (Read ticket id tuple) = kind.READ ∷ entry.spell (ticket, (id, tuple))
spell_reply (Taken n id tuple) = kind.TAKEN ∷ entry.spell (n, (id, tuple))
spell_reply (Gone n) = kind.GONE ∷ number.spell n
spell_reply (Refused code detail) = kind.REFUSED ∷ refusal.spell (code, detail)
spell_reply (Left n) = kind.LEFT ∷ number.spell n

-- What has a spelling among replies: numbers of their widths, and a tuple within its limits.
abbrev pub FitsReply : Reply → Type 0
FitsReply (Welcome last) = number.Fits last
FitsReply (Stored n id) = stored.Fits (n, id)
FitsReply (Offer ticket id tuple) = entry.Fits (ticket, (id, tuple))
FitsReply (Read ticket id tuple) = entry.Fits (ticket, (id, tuple))
FitsReply (Taken n id tuple) = entry.Fits (n, (id, tuple))
FitsReply (Gone n) = number.Fits n
FitsReply (Refused code detail) = refusal.Fits (code, detail)
FitsReply (Left n) = number.Fits n

-- The kinds of replies, each with its body.
abbrev pub reply_kinds : List (ℕ × Reader Reply)
reply_kinds =
    (kind.WELCOME, made_at Welcome number) ∷ (kind.STORED, made_at (of_two Stored) stored)
    ∷ (kind.OFFER, made_at (of_three Offer) entry) ∷ (kind.READ, made_at (of_three Read) entry)
    ∷ (kind.TAKEN, made_at (of_three Taken) entry) ∷ (kind.GONE, made_at Gone number)
    ∷ (kind.REFUSED, made_at (of_two Refused) refusal) ∷ (kind.LEFT, made_at Left number) ∷ []

-- What is after the kind byte of a reply.
abbrev pub reply_body_at : ℕ → Reader Reply
reply_body_at = body_at reply_kinds no_kind

abbrev pub reply : Format Reply
reply = record { spell = spell_reply; Fits = FitsReply; read = choice_at reply_kinds no_kind }

-- A reply's frame.
abbrev pub reply_frame : Reply → List ℕ
reply_frame r = frame (spell_reply r)
