-- Progress of what is pending from call to call, in words.
use Rattle.std.specs.Prelude.{◌≡◌, ◌+◌, ◌<◌, ◌⊎◌, List, [], ◌++◌, length, Option, Some, None}
use Rattle.std.specs.Prelude.{IsSomeAnd, drop, option_map, slice_get}
use Rattle.linda_event.specs.Trees.{Tree}
use Rattle.linda_wire.specs.declared.message.Message.{Message}
use Rattle.linda_wire.specs.declared.message.Message.TheVariants as messages
use Rattle.linda_wire.specs.declared.reply.Reply.TheVariants as replies
use Rattle.linda_client.specs.declared.arrived_tuple.PendingAccept.{PendingAccept}
use Rattle.linda_client.specs.declared.arrived_tuple.ArrivedTuple.{ArrivedTuple}
use Rattle.linda_client.specs.declared.task.Task.TheVariants.{Idle}
use Rattle.linda_client.specs.Ask.{asks}
use Rattle.linda_client.specs.Pending.{Pending}
use Rattle.linda_client.specs.Client.{Client, asked_in, pending_in, servers}
use Rattle.linda_client.specs.Packets.{Packet, ask_packets}
use Rattle.linda_client.specs.Reaction.{Reaction}
use Rattle.linda_client.specs.React.{Call, Receive, Sync, new_pending, next_accept}
use Rattle.linda_client.specs.Ending.{EndsAs, EndsSync, IsEnd}

-- What an Ask asks is what its ticket asks, which is open; a client sends no Hello.
abbrev pub AsksOpenly : Client → Message → Type 0
AsksOpenly new (messages.Ask ticket remove template) =
    IsSomeAnd (asked_in (pending_in new.task) ticket)
    (λ ask. (ask.remove ≡ remove) × (ask.template ≡ template))
AsksOpenly new (messages.Hello version client fresh) = ⊥
AsksOpenly new _ = Unit {0}

-- The packet goes to a server that is there, and asks openly.
abbrev pub IsSoundPacket : Client → Packet → Type 0
IsSoundPacket new p = (p.0 < servers new) × AsksOpenly new p.1

-- What is accepted is what an arrival offers, under the next number of its server.
abbrev pub accept_of : Client → ArrivedTuple → PendingAccept
accept_of c a = next_accept c a.server a.ticket a.id

-- The call says that the unanswered Accept's offer is gone.
abbrev pub IsGone : Option PendingAccept → Call → Type 0
IsGone None call = ⊥
IsGone (Some own) call = call ≡ Receive own.server (replies.Gone own.n)

-- The Accept stays as it was, unanswered or none, since its offer is not gone, and what is saved
-- only grows, at its end.
pub record KeepsAccept (call : Call) (pending later : Pending) : Type 0 where
  pub waits : IsGone pending.accepted call → ⊥
  pub accepted : later.accepted ≡ pending.accepted
  pub more : List ArrivedTuple
  pub saved : later.saved ≡ pending.saved ++ more

-- With none unanswered, an offer that comes is accepted, and what is saved stays.
pub record AcceptsOffer (c : Client) (call : Call) (pending later : Pending) : Type 0 where
  pub free : pending.accepted ≡ None
  pub offer : ArrivedTuple
  pub comes : call ≡ Receive offer.server (replies.Offer offer.ticket offer.id offer.tuple)
  pub accepted : later.accepted ≡ Some (accept_of c offer)
  pub saved : later.saved ≡ pending.saved

-- The accepted offer is gone: exactly the oldest that was saved, if any was, is saved no more, and
-- is accepted.
pub record LosesOffer (c : Client) (call : Call) (pending later : Pending) : Type 0 where
  pub own : PendingAccept
  pub before : pending.accepted ≡ Some own
  pub comes : call ≡ Receive own.server (replies.Gone own.n)
  pub accepted : later.accepted ≡ option_map (accept_of c) (slice_get pending.saved 0)
  pub saved : later.saved ≡ drop 1 pending.saved

-- A pending synchronization goes on: with its event and its tickets, and nothing is reported.
pub record Continues (c : Client) (call : Call) (pending : Pending) (r : Reaction) : Type 0 where
  pub later : Pending
  pub after : pending_in r.client.task ≡ Some later
  pub event : later.event ≡ pending.event
  pub first : later.first ≡ pending.first
  pub silent : r.outcome ≡ None
  pub offers : KeepsAccept call pending later
      ⊎ (AcceptsOffer c call pending later ⊎ LosesOffer c call pending later)

-- No synchronization is pending then, and none has ended.
pub record StaysApart (r : Reaction) : Type 0 where
  pub after : pending_in r.client.task ≡ None
  pub silent : EndsSync r.outcome → ⊥

-- A synchronization that commits at once: nothing is pending after it, and nothing is sent.
pub record CommitsAtOnce (c : Client) (call : Call) (r : Reaction) : Type 0 where
  pub event : Tree
  pub called : call ≡ Sync event
  pub idle : r.client.task ≡ Idle
  pub ends : EndsAs c.clock event r.outcome
  pub silent : r.packets ≡ []

-- A synchronization begins: on the event of the call, with the next tickets, no Accept and nothing
-- saved; all its Asks are sent.
pub record Begins (c : Client) (call : Call) (r : Reaction) : Type 0 where
  pub event : Tree
  pub called : call ≡ Sync event
  pub after : pending_in r.client.task ≡ Some (new_pending c event)
  pub packets : r.packets ≡ ask_packets (servers c) (new_pending c event)
  pub ticket : r.client.ticket ≡ c.ticket + length (asks event)
  pub silent : r.outcome ≡ None

-- How a call finds and leaves what is pending: a synchronization that was pending ends or goes on,
-- with the next ticket as it was; if none was pending, none is, or one commits at once, with the
-- next ticket as it was, or one begins.
abbrev pub GoesOn : Client → Call → Option Pending → Reaction → Type 0
GoesOn c call (Some pending) r =
    (r.client.ticket ≡ c.ticket) × (IsEnd c pending r ⊎ Continues c call pending r)
GoesOn c call None r =
    ((r.client.ticket ≡ c.ticket) × (StaysApart r ⊎ CommitsAtOnce c call r)) ⊎ Begins c call r
