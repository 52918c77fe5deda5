-- Reasons of requests, offers and holds, which each step keeps: whatever is held is held for a
-- reason.
use Rattle.std.specs.Prelude.{◌≡◌, ℕ, ◌<◌, Bool, true, false, List, ◌⊎◌, Some, All}
use Rattle.std.specs.FinMap as map
use Rattle.linda_tuple.specs.Tuple.{Tuple}
use Rattle.linda_tuple.specs.Template.{Template}
use Rattle.linda_hold.specs.declared.request.Request.{Request}
use Rattle.linda_hold.specs.Waits.{Wait}
use Rattle.linda_wire.specs.declared.message.Message.{Message}
use Rattle.linda_wire.specs.declared.message.Message.TheVariants as messages
use Rattle.linda_wire.specs.declared.reply.Reply.{Reply}
use Rattle.linda_wire.specs.declared.reply.Reply.TheVariants as replies
use Rattle.linda_store_state.specs.declared.deed.Deed.{Deed}
use Rattle.linda_store_state.specs.Deed.{client_of}
use Rattle.linda_store_state.specs.Deed as deeds
use Rattle.linda_store_step.specs.Deeds.{last_in as last_number}
use Rattle.linda_client.specs.declared.ask.Ask.{Ask}
use Rattle.linda_client.specs.Pending.{Pending, ask_at, is_fit}
use Rattle.linda_client.specs.Client.{Client, asked_in, next_at, pending_in, servers}
use Rattle.linda_client.specs.Numbers.{number_of, IsUnanswered}
use Rattle.linda_client.specs.Offers.{InHand}
use Rattle.linda_world_laws.specs.declared.packet.Body.{Body}
use Rattle.linda_world_laws.specs.declared.packet.Body.TheVariants as bodies
use Rattle.linda_world_laws.specs.declared.packet.Packet.{Packet}
use Rattle.linda_world_laws.specs.World.{Server, Member, Members, World}
use Rattle.linda_world_laws.specs.Promises.{OfPackets, HasCancel, HasOffer}
use Rattle.linda_world_laws.specs.Honest.{OfServers}

-- P holds of a client that is there.
pub record OfMember (ms : Members) (c : ℕ) (P : Client → Type 0) : Type 0 where
  pub member : Member
  pub known : map.get ms c ≡ Some member
  pub holds : P member.client

-- P holds of what the client asks under this ticket, which it has used, if the ticket is still
-- open.
pub record OfTicket (k : ℕ) (P : Ask → Type 0) (c : Client) : Type 0 where
  pub below : k < c.ticket
  pub asked : (ask : Ask) → asked_in (pending_in c.task) k ≡ Some ask → P ask

-- What is asked is this.
abbrev pub Asks : Bool → Template → Ask → Type 0
Asks remove template ask = (ask.remove ≡ remove) × (ask.template ≡ template)

-- A tuple that is offered fits it.
abbrev pub Suits : Tuple → Ask → Type 0
Suits row ask = is_fit ask true row ≡ true

-- The client sent this to the server as its message of this number: the number is used, and if a
-- message of this number to this server is unanswered, it is this one.
pub record HasSent (s n : ℕ) (m : Message) (c : Client) : Type 0 where
  pub used : n < next_at c s
  pub own : (k : Message) → IsUnanswered c s k → number_of k ≡ Some n → k ≡ m

-- What a client's message says of the client: an Ask is of a ticket of its, and asks what that
-- asks; a numbered message is the one of its number.
abbrev pub IsSaid : ℕ → Message → Client → Type 0
IsSaid s (messages.Hello version client fresh) c = Unit {0}
IsSaid s (messages.Out n row) c = HasSent s n (messages.Out n row) c
IsSaid s (messages.Ask k remove template) c = OfTicket k (Asks remove template) c
IsSaid s (messages.Accept n k id) c = HasSent s n (messages.Accept n k id) c
IsSaid s (messages.Cancel k) c = Unit {0}
IsSaid s (messages.Leave n) c = HasSent s n (messages.Leave n) c

-- What is offered to a client fits its ticket.
abbrev pub IsReplied : Members → ℕ → Reply → Type 0
IsReplied ms c (replies.Offer k id row) = OfMember ms c (OfTicket k (Suits row))
IsReplied ms c _ = Unit {0}

-- So it is with each packet of the client.
abbrev pub IsSane : Members → ℕ → ℕ → Body → Type 0
IsSane ms s c (bodies.Message m) = OfMember ms c (IsSaid s m)
IsSane ms s c (bodies.Reply r) = IsReplied ms c r

-- The number of a deed was used by its client.
abbrev pub IsUsedBy : Members → ℕ → Deed → Type 0
IsUsedBy ms s d = OfMember ms (client_of d) (λ c. deeds.number_of d < next_at c s)

-- A client that waits did ask so.
abbrev pub IsWaitOf : Members → Wait → Type 0
IsWaitOf ms w = OfMember ms w.0.client (OfTicket w.0.ticket (Asks w.1.remove w.1.template))

-- The client has the offer in hand: its ticket is open, and the offer is saved, or accepted by a
-- message that the server has not done.
pub record HasInHand (s : ℕ) (last k id : ℕ) (c : Client) : Type 0 where
  pub within : s < servers c
  pub pending : Pending
  pub pending_is : pending_in c.task ≡ Some pending
  pub ask : Ask
  pub is_open : ask_at pending k ≡ Some ask
  pub hand : InHand (λ a. last < a.n) pending s k id

-- Why a tuple is held: its Offer was never delivered, its ticket is cancelled, or the client has it
-- in hand.
abbrev pub HasReason : Members → List Packet → ℕ → List Deed → ℕ → Request → Type 0
HasReason ms ps s ds id request = HasOffer ps s ds request id
    ⊎ (HasCancel ps s request
    ⊎ OfMember ms request.client (HasInHand s (last_number ds request.client) request.ticket id))

-- What is kept of a server that is up: who waits did ask, and what is held fits its ticket and has
-- a reason.
pub record IsWaitedFor (ms : Members) (ps : List Packet) (s : ℕ) (server : Server) : Type 0 where
  pub waits : All (IsWaitOf ms) server.node.soft.waits
  pub fits : (id : ℕ) (request : Request) (row : Tuple)
      → map.get server.node.soft.holds id ≡ Some request
      → map.get server.node.state.bag id ≡ Some row
      → OfMember ms request.client (OfTicket request.ticket (Suits row))
  pub held : (id : ℕ) (request : Request) → map.get server.node.soft.holds id ≡ Some request
      → HasReason ms ps s server.deeds id request

-- What is kept of a server: its deeds, and those that it may have done if it went down, have
-- numbers that were used.
pub record IsReasoned (ms : Members) (ps : List Packet) (s : ℕ) (server : Server) : Type 0 where
  pub deeds : All (IsUsedBy ms s) server.deeds
  pub lost : server.node.is_down ≡ true → All (IsUsedBy ms s) server.node.lost
  pub up : server.node.is_down ≡ false → IsWaitedFor ms ps s server

pub record HasReasons (w : World) : Type 0 where
  pub sane : OfPackets (IsSane w.members) w.packets
  pub servers : OfServers w (IsReasoned w.members w.packets)
