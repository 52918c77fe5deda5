-- Whole conversations: the bytes that came in, all that was said, and the point that this leads to.
use Rattle.std.specs.Prelude.{◌≡◌, ℕ, Bool, true, false, List, [], ◌∷◌, ◌++◌, All, Option, Result}
use Rattle.std.specs.Prelude.{Ok, Err, unwrap_or}
use Rattle.std.specs.List.{flat_map}
use Rattle.linda_wire.specs.Refusal.{refused}
use Rattle.linda_wire.specs.declared.refusal.Refusal.TheVariants as refusals
use Rattle.linda_wire.specs.declared.message.Message.{Message}
use Rattle.linda_wire.specs.declared.reply.Reply.{Reply}
use Rattle.linda_wire.specs.declared.fault.FrameFault.{FrameFault}
use Rattle.linda_wire.specs.Frames.{message_frame, FitsMessage}
use Rattle.linda_wire.specs.Offset.{offset_of}
use Rattle.linda_wire.specs.Stream.{Partial, Broken}
use Rattle.linda_wire.specs.Stream.{message_front}
use Rattle.linda_store.specs.declared.connection_state.ConnectionState.{ConnectionState}
use Rattle.linda_store.specs.declared.connection_state.ConnectionState.TheVariants as stages
use Rattle.linda_store.specs.Node.{Node}
use Rattle.linda_store.specs.Turn.{Point, point_at, Runs}

-- whether nothing has ended the connection
abbrev pub stays_open : ConnectionState → Bool
stays_open stages.Open = true
stays_open (stages.Malformed detail) = false
stays_open stages.Down = false

-- whether the node was not found down
abbrev pub is_up : ConnectionState → Bool
is_up stages.Open = true
is_up (stages.Malformed detail) = true
is_up stages.Down = false

-- the offset that is reported to a client for a fault in its frames
abbrev pub detail_of : FrameFault → ℕ
detail_of fault = unwrap_or (offset_of fault) 0

-- the bytes begin with a fault, which is reported with this detail
abbrev pub IsMalformed : List ℕ → ℕ → Type 0
IsMalformed bytes detail =
    (fault : FrameFault) × ((message_front bytes ≡ Broken fault) × (detail ≡ detail_of fault))

-- what is said last on a connection in this state
abbrev pub last_words : ConnectionState → List Reply
last_words stages.Open = []
last_words (stages.Malformed detail) = (refused (refusals.Malformed detail)) ∷ []
last_words stages.Down = []

-- What the bytes after the last message are: no whole frame and no fault, or a fault; or the node
-- is down and nobody looks at them.
abbrev pub StandsAs : ConnectionState → List ℕ → Type 0
StandsAs stages.Open rest = message_front rest ≡ Partial
StandsAs (stages.Malformed detail) rest = IsMalformed rest detail
StandsAs stages.Down rest = Unit {0}

-- The bytes spell messages, each of which fits its frame, and a rest; these replies are what is
-- said to the messages.
pub record IsTalk (from : Point) (bytes : List ℕ) (turns : List Reply) (rest : List ℕ) (to : Point)
    : Type 0 where
  pub messages : List Message
  pub fit : All FitsMessage messages
  pub spelled : bytes ≡ flat_map message_frame messages ++ rest
  pub run : Runs from messages turns to

-- All messages in the bytes were taken, up to a rest as this state of the connection has it, and
-- these replies are all that is said.
pub record IsConversation (from : Point) (bytes : List ℕ) (said : List Reply)
    (stage : ConnectionState)
    (rest : List ℕ)
    (to : Point) : Type 0 where
  pub turns : List Reply
  pub talk : IsTalk from bytes turns rest to
  pub stands : StandsAs stage rest
  pub up : to.is_open ≡ is_up stage
  pub said_is : said ≡ turns ++ last_words stage

-- A talk that was given up, since memory ran out, in some place.
abbrev pub IsGivenUp : Point → List ℕ → Node → Option ℕ → Type 0
IsGivenUp from bytes node greeted =
    (turns : List Reply) × ((rest : List ℕ) × ((is_open : Bool)
    × IsTalk from bytes turns rest (point_at node greeted is_open)))

-- What a call that takes all messages in the bytes did: it returns the state of the connection, and
-- puts what is said after the earlier replies. If memory ran out, what is said may be lost.
abbrev pub HasAnswered :
    {E : Type 0} → Point → List ℕ → List Reply → Result ConnectionState E → List ℕ → List Reply
    → Node
    → Option ℕ → Type 0
HasAnswered from bytes old (Ok stage) rest new node greeted =
    (said : List Reply)
    × (IsConversation from bytes said stage rest (point_at node greeted (is_up stage))
    × (new ≡ old ++ said))
HasAnswered from bytes old (Err fault) rest new node greeted = IsGivenUp from bytes node greeted
