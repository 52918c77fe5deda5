-- The messages that a gate passes on, of those that a client sends.
use Rattle.std.specs.Prelude.{◌≡◌, ℕ, ◌==◌, Bool, true, false, ◌&&◌, not, nat_lt}
use Rattle.std.specs.Prelude.{List, [], ◌∷◌, ◌++◌, All, Option, None, Result, Ok, Err}
use Rattle.std.specs.List.{flat_map}
use Rattle.linda_wire.specs.declared.fault.FrameFault.{FrameFault}
use Rattle.linda_wire.specs.declared.limits.TheConstants.{VERSION}
use Rattle.linda_wire.specs.declared.message.Message.{Message}
use Rattle.linda_wire.specs.declared.message.Message.TheVariants as messages
use Rattle.linda_wire.specs.Frames.{message_frame}
use Rattle.linda_wire.specs.Stream.{Partial, Whole, Broken, message_front}
use Rattle.linda_gate_pass.specs.declared.fault.PassFault.{PassFault}
use Rattle.linda_gate_pass.specs.declared.fault.PassFault.TheVariants.{NoHead, Memory, NoMessage}
use Rattle.linda_gate_pass.specs.declared.fault.PassFault.TheVariants.{NotAllowed}
use Rattle.linda_gate_pass.specs.declared.client_numbers.ClientNumbers.{ClientNumbers}

-- ---- which messages pass

-- Whether the client is among the numbers.
abbrev pub allows : ClientNumbers → ℕ → Bool
allows numbers client = not (nat_lt client numbers.low) && not (nat_lt numbers.high client)

-- Whether a message may be the first one: a Hello of an allowed client, in the one version.
abbrev pub may_begin : ClientNumbers → Message → Bool
may_begin numbers (messages.Hello version client fresh) =
    (version == VERSION) && allows numbers client
may_begin numbers (messages.Out n tuple) = false
may_begin numbers (messages.Ask ticket remove template) = false
may_begin numbers (messages.Accept n ticket id) = false
may_begin numbers (messages.Cancel ticket) = false
may_begin numbers (messages.Leave n) = false

-- Whether it is a Hello.
abbrev pub is_hello : Message → Bool
is_hello (messages.Hello version client fresh) = true
is_hello (messages.Out n tuple) = false
is_hello (messages.Ask ticket remove template) = false
is_hello (messages.Accept n ticket id) = false
is_hello (messages.Cancel ticket) = false
is_hello (messages.Leave n) = false

-- Whether there are any.
abbrev pub are_some : List Message → Bool
are_some [] = false
are_some (first ∷ later) = true

-- Whether a message may pass after these.
abbrev pub may_pass : ClientNumbers → List Message → Message → Bool
may_pass numbers [] m = may_begin numbers m
may_pass numbers (first ∷ later) m = not (is_hello m)

-- The messages are those of one allowed client: none; or its Hello, and no other Hello after it.
abbrev pub AreOfOne : ClientNumbers → List Message → Type 0
AreOfOne numbers [] = Unit {0}
AreOfOne numbers (first ∷ later) =
    (may_begin numbers first ≡ true) × All (λ m. is_hello m ≡ false) later

-- ---- a connection

-- What contracts see of a connection: all messages that passed, and the bytes after them.
pub record Passing : Type 0 where
  pub numbers : ClientNumbers
  pub passed : List Message
  pub unread : List ℕ
  pub fault : Option PassFault

-- Nothing came yet.
abbrev pub begun : ClientNumbers → Passing
begun numbers = record { numbers = numbers; passed = []; unread = []; fault = None }

-- All bytes that came, as long as there is no fault.
abbrev pub came : Passing → List ℕ
came p = flat_map message_frame p.passed ++ p.unread

-- Bytes were read: so many messages more passed, and their frames, and no other bytes, were
-- written after those of before; the rest is not read.
pub record Reads (old new : List Message) (bytes rest before after : List ℕ) : Type 0 where
  pub more : List Message
  pub passed : new ≡ old ++ more
  pub spelled : bytes ≡ flat_map message_frame more ++ rest
  pub written : after ≡ before ++ flat_map message_frame more

-- So many messages more passed, and their frames, and no other bytes, were written after those of
-- before.
pub record Writes (old new : List Message) (before after : List ℕ) : Type 0 where
  pub more : List Message
  pub passed : new ≡ old ++ more
  pub written : after ≡ before ++ flat_map message_frame more

-- Why nothing more passes after these messages: memory ran out; the rest begins with no message; or
-- with one that may not pass.
abbrev pub Stops : ClientNumbers → List Message → List ℕ → PassFault → Type 0
Stops numbers passed rest NoHead = ⊥
Stops numbers passed rest Memory = Unit {0}
Stops numbers passed rest NoMessage = (fault : FrameFault) × (message_front rest ≡ Broken fault)
Stops numbers passed rest NotAllowed =
    (m : Message) × (later : List ℕ) × (message_front rest ≡ Whole m later)
    × (may_pass numbers passed m ≡ false)

-- How reading ends: no whole frame is left; or a fault.
abbrev pub Ends : ClientNumbers → List Message → List ℕ → List ℕ → Result (Unit {0}) PassFault
    → Type 0
Ends numbers passed rest unread (Ok unit) = (unread ≡ rest) × (message_front rest ≡ Partial)
Ends numbers passed rest unread (Err fault) = Stops numbers passed rest fault

-- The frames of bytes are read, as far as they may pass.
abbrev pub ReadsAll : ClientNumbers → List Message → List Message → List ℕ → List ℕ → List ℕ
    → List ℕ
    → Result (Unit {0}) PassFault → Type 0
ReadsAll numbers old new bytes unread before after result =
    (rest : List ℕ)
    × (Reads old new bytes rest before after × Ends numbers new rest unread result)

-- The frames of these messages are the first of the bytes.
abbrev pub BeginsWith : List ℕ → List Message → Type 0
BeginsWith bytes ms = (rest : List ℕ) × (bytes ≡ flat_map message_frame ms ++ rest)
