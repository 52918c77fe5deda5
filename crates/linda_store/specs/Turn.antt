-- Turns of a connection: the greeting, then the node's replies to the client that was greeted.
use Rattle.std.specs.Prelude.{◌≡◌, ℕ, Bool, true, false, ◌==◌, if◌then◌else◌, List, [], ◌∷◌, ◌++◌}
use Rattle.std.specs.Prelude.{map, filter}
use Rattle.std.specs.Prelude.{Option, Some, None, Result, Ok, Err}
use Rattle.std.specs.List.{list_any}
use Rattle.linda_wire.specs.Refusal.{refused}
use Rattle.linda_wire.specs.declared.refusal.Refusal.TheVariants as refusals
use Rattle.linda_wire.specs.declared.message.Message.{Message}
use Rattle.linda_wire.specs.declared.message.Message.TheVariants as messages
use Rattle.linda_wire.specs.declared.reply.Reply.{Reply}
use Rattle.linda_wire.specs.declared.reply.Reply.TheVariants as replies
use Rattle.linda_store.specs.Node.{Node, NodeAnswer, Sent, IsFull, IsDown, Handles}

-- A point of a conversation: the node, the client that was greeted, if one was, and whether it goes
-- on.
pub record Point : Type 0 where
  pub node : Node
  pub greeted : Option ℕ
  pub is_open : Bool

-- a point of a conversation, from its parts
abbrev pub point_at : Node → Option ℕ → Bool → Point
point_at node greeted is_open = record { node = node; greeted = greeted; is_open = is_open }

-- a connection to a node begins: nobody is greeted
abbrev pub beginning : Node → Point
beginning node = point_at node None true

-- the replies that go to this client
abbrev pub replies_for : ℕ → List (ℕ × Reply) → List Reply
replies_for c sends = map (λ s. s.1) (filter (λ s. s.0 == c) sends)

-- what the client c hears for a node's answer
abbrev pub told : ℕ → NodeAnswer → List Reply
told c (Sent sends) = replies_for c sends
told c IsFull = (refused refusals.Full) ∷ []
told c IsDown = (refused refusals.Down) ∷ []

-- whether a conversation goes on after a node's answer
abbrev pub goes_on : NodeAnswer → Bool
goes_on (Sent sends) = true
goes_on IsFull = true
goes_on IsDown = false

abbrev pub is_welcome : Reply → Bool
is_welcome (replies.Welcome last) = true
is_welcome _ = false

-- the client if it is welcome, else nobody
abbrev pub greeted_if : Bool → ℕ → Option ℕ
greeted_if welcome c = if welcome then Some c else None

-- who is greeted after a node's answer to the Hello of c: c if it is welcome
abbrev pub greeted_by : ℕ → NodeAnswer → Option ℕ
greeted_by c (Sent sends) = greeted_if (list_any is_welcome (replies_for c sends)) c
greeted_by c IsFull = None
greeted_by c IsDown = None

-- The message is refused by the connection itself: the node is not asked.
pub record IsTurnedAway (reply : Reply) (from : Point) (said : List Reply) (to : Point)
    : Type 0 where
  pub said_is : said ≡ reply ∷ []
  pub same : to ≡ from

-- The node is asked for the client c.
pub record IsAsked (c : ℕ) (m : Message) (greeted : NodeAnswer → Option ℕ) (from : Point)
    (said : List Reply)
    (to : Point) : Type 0 where
  pub answer : NodeAnswer
  pub handled : Handles from.node c m answer to.node
  pub said_is : said ≡ told c answer
  pub greeted_is : to.greeted ≡ greeted answer
  pub open_is : to.is_open ≡ goes_on answer

-- the client that a Hello names; none if the message is no Hello
abbrev pub hello_of : Message → Option ℕ
hello_of (messages.Hello version client fresh) = Some client
hello_of (messages.Out n tuple) = None
hello_of (messages.Ask ticket remove template) = None
hello_of (messages.Accept n ticket id) = None
hello_of (messages.Cancel ticket) = None
hello_of (messages.Leave n) = None

-- What is done with a message, given who is greeted and whom it greets: the first Hello and then
-- each other message is the node's, and what comes out of turn is refused.
abbrev pub TreatsAs : Option ℕ → Option ℕ → Message → Point → List Reply → Point → Type 0
TreatsAs None (Some client) m = IsAsked client m (greeted_by client)
TreatsAs None None m = IsTurnedAway (refused refusals.NoHello)
TreatsAs (Some c) (Some client) m = IsTurnedAway (refused refusals.Busy)
TreatsAs (Some c) None m = IsAsked c m (λ _. Some c)

-- What is done with a message, given who is greeted.
abbrev pub Treats : Option ℕ → Message → Point → List Reply → Point → Type 0
Treats greeted m = TreatsAs greeted (hello_of m) m

-- One message of an open conversation: what is said to it, and the point of the conversation then.
abbrev pub Turns : Point → Message → List Reply → Point → Type 0
Turns from m said to = (from.is_open ≡ true) × Treats from.greeted m from said to

-- What a call that answers one message did, given what is done with the message: it says whether
-- the conversation goes on, and puts what is said after the earlier replies. If memory ran out,
-- what is said may be lost.
abbrev pub HasSaid : {E : Type 0} → (Bool → List Reply → Type 0) → List Reply → Result Bool E
    → List Reply → Type 0
HasSaid does old (Ok is_open) new = (said : List Reply) × (does is_open said × (new ≡ old ++ said))
HasSaid does old (Err fault) new = (said : List Reply) × ((is_open : Bool) × does is_open said)

-- Messages one after another: all that is said to them, in order, and the point of the conversation
-- then.
abbrev pub Runs : Point → List Message → List Reply → Point → Type 0
Runs from [] said to = (said ≡ []) × (to ≡ from)
Runs from (m ∷ ms) said to =
    (mid : Point) × ((first : List Reply) × ((later : List Reply)
    × (Turns from m first mid × Runs mid ms later to × (said ≡ first ++ later))))
