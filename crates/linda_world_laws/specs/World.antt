-- A world as contracts see it: its servers, its clients, and all packets that were ever sent.
use Rattle.std.specs.Prelude.{ℕ, zero, suc, true, false, List, [], ◌∷◌, ◌++◌, Option, Some, None}
use Rattle.std.specs.Prelude.{option_to_list}
use Rattle.std.specs.Option.{option_map}
use Rattle.std.specs.Ordering.{nat_cmp}
use Rattle.std.specs.FinMap as map
use Rattle.linda_tuple.specs.Tuple.{Tuple}
use Rattle.linda_wire.specs.declared.message.Message.{Message}
use Rattle.linda_wire.specs.declared.reply.Reply.{Reply}
use Rattle.linda_store_state.specs.declared.deed.Deed.{Deed}
use Rattle.linda_store.specs.Node.{Node}
use Rattle.linda_client.specs.declared.outcome.Got.{Got}
use Rattle.linda_client.specs.declared.outcome.Got.TheVariants.{Took, Copied, Alarm, Always}
use Rattle.linda_client.specs.declared.outcome.Outcome.{Outcome}
use Rattle.linda_client.specs.declared.outcome.Outcome.TheVariants.{Stored, Synced, Dropped, Left}
use Rattle.linda_client.specs.Client.{Client}
use Rattle.linda_client.specs.Reaction.{Reaction}
use Rattle.linda_world_laws.specs.declared.packet.Body.TheVariants as bodies
use Rattle.linda_world_laws.specs.declared.packet.Packet.{Packet}

-- A server: all deeds that it ever did, in order, and its node.
pub record Server : Type 0 where
  pub deeds : List Deed
  pub node : Node

-- A client, and what it was given: the server and the id of each tuple that it took, in order.
pub record Member : Type 0 where
  pub client : Client
  pub got : List (ℕ × ℕ)

-- clients by number
abbrev pub Members : Type 0
Members = map.FinMap nat_cmp Member

-- Servers are numbered by their places, and so are packets, which are in the order of sending.
pub record World : Type 0 where
  pub servers : List Server
  pub members : Members
  pub packets : List Packet

-- A tuple that a client is given, with its server and its id there.
pub record Handed : Type 0 where
  pub server : ℕ
  pub id : ℕ
  pub tuple : Tuple

-- what a base that got this was given
abbrev pub handed_to : Got → Option Handed
handed_to (Took server id row bindings) = Some (record { server = server; id = id; tuple = row })
handed_to (Copied server id row bindings) = None
handed_to Alarm = None
handed_to (Always value) = None

-- What an outcome gives: a tuple, if it is that of an input.
abbrev pub handed_by : Option Outcome → Option Handed
handed_by None = None
handed_by (Some (Stored server id)) = None
handed_by (Some (Synced base got labels raised)) = handed_to got
handed_by (Some (Dropped raised)) = None
handed_by (Some Left) = None

abbrev pub place_of : Handed → ℕ × ℕ
place_of handed = (handed.server, handed.id)

-- its server and id, if it gives one
abbrev pub tuple_taken_by : Option Outcome → List (ℕ × ℕ)
tuple_taken_by outcome = option_to_list (option_map place_of (handed_by outcome))

-- A client after a call: it is as the call leaves it, and was given what the outcome gives.
abbrev pub member_then : Member → Reaction → Member
member_then member reaction =
    record { client = reaction.client; got = member.got ++ tuple_taken_by reaction.outcome }

-- a message of a client on its way to a server
abbrev pub sent_by : ℕ → ℕ × Message → Packet
sent_by c p = record { server = p.0; client = c; body = bodies.Message p.1; delivered = false }

-- a reply of a server on its way to a client
abbrev pub sent_from : ℕ → ℕ × Reply → Packet
sent_from s r = record { server = s; client = r.0; body = bodies.Reply r.1; delivered = false }

-- the packet of this number counts as delivered
abbrev pub delivered_at : ℕ → List Packet → List Packet
delivered_at k [] = []
delivered_at zero (p ∷ ps) = record p { delivered = true } ∷ ps
delivered_at (suc k) (p ∷ ps) = p ∷ delivered_at k ps

-- The packets of these numbers count as delivered.
abbrev pub delivered : List ℕ → List Packet → List Packet
delivered [] ps = ps
delivered (k ∷ ks) ps = delivered ks (delivered_at k ps)
