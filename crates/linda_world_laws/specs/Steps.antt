-- Steps of a world: what each event comes to, and what is seen of it.
use Rattle.std.specs.Prelude.{◌≡◌, ℕ, true, false, List, [], ◌∷◌, ◌++◌, length, Option, Some, None}
use Rattle.std.specs.Prelude.{Result, Ok, Err, map, slice_set}
use Rattle.std.specs.List.{slice_get}
use Rattle.std.specs.FinMap as maps
use Rattle.std.specs.Global.{Vec}
use Rattle.linda_wire.specs.declared.message.Message.{Message}
use Rattle.linda_wire.specs.declared.reply.Reply.{Reply}
use Rattle.linda_wire.specs.declared.refusal.Refusal.TheVariants as refusals
use Rattle.linda_wire.specs.Refusal.{refused}
use Rattle.linda_event.specs.Trees.{tree_of}
use Rattle.linda_store_state.specs.declared.deed.Deed.{Deed}
use Rattle.linda_store_step.specs.History.{Coming, says, comings}
use Rattle.linda_store.specs.declared.node.NodeFault.{NodeFault}
use Rattle.linda_store.specs.declared.node.NodeFault.TheVariants as faults
use Rattle.linda_store.specs.Node.{Node, NodeAnswer, Sent, IsFull, IsDown, Works, Closes, Snaps}
use Rattle.linda_store.specs.Node.{Stops}
use Rattle.linda_store.specs.Sound.{added}
use Rattle.linda_client.specs.Reaction.{Reaction}
use Rattle.linda_client.specs.React as calls
use Rattle.linda_client.specs.React.{Call, Receive, Resend, Abandon, Leave, new_client, react}
use Rattle.linda_world_laws.specs.declared.event.WorldEvent.{WorldEvent}
use Rattle.linda_world_laws.specs.declared.event.WorldEvent.TheVariants as events
use Rattle.linda_world_laws.specs.declared.packet.Body.{Body}
use Rattle.linda_world_laws.specs.declared.packet.Body.TheVariants as bodies
use Rattle.linda_world_laws.specs.declared.packet.Packet.{Packet}
use Rattle.linda_world_laws.specs.declared.seen.Seen.{Seen}
use Rattle.linda_world_laws.specs.World.{Server, Member, World, member_then, sent_by, sent_from}
use Rattle.linda_world_laws.specs.World.{delivered}

-- What is reported of a step: what is seen of it, or which server is down.
abbrev pub Told : Type 0
Told = Result Seen ℕ

-- a client reacted
abbrev pub reacted : ℕ → Reaction → Told
reacted c reaction =
    Ok (record {
      client = Some c;
      outcome = reaction.outcome;
      fault = reaction.fault;
      full = false;
    })

-- a server did what it was asked, had no room, or is down
abbrev pub served : ℕ → NodeAnswer → Told
served s (Sent sends) = Ok (record { client = None; outcome = None; fault = None; full = false })
served s IsFull = Ok (record { client = None; outcome = None; fault = None; full = true })
served s IsDown = Err s

-- A client was called, and reacted so; of the packets, these count as delivered.
pub record HasReacted (call : Call) (c : ℕ) (ks : List ℕ) (w : World) (told : Told) (new : World)
    : Type 0 where
  pub member : Member
  pub known : maps.get w.members c ≡ Some member
  pub reaction : Reaction
  pub answer : react member.client call ≡ Ok reaction
  pub servers : new.servers ≡ w.servers
  pub members : new.members ≡ maps.insert w.members c (member_then member reaction)
  pub packets : new.packets ≡ delivered ks w.packets ++ map (sent_by c) reaction.packets
  pub told_is : told ≡ reacted c reaction

-- What a server may be asked to do: to take a message of a client, to close a client, to write a
-- snapshot, or to be stopped with this in hand.
pub data Task : Type 0 where
  Takes : ℕ → Message → Task
  HangsUp : ℕ → Task
  Saves : Task
  Halts : List Coming → Task

-- what a call that sends nothing answered
abbrev pub silent : {A : Type 0} → Result A NodeFault → NodeAnswer
silent (Ok done) = Sent []
silent (Err faults.Full) = IsFull
silent (Err faults.Down) = IsDown

-- A node was asked this: what it answers, the deeds that it adds, and the node after that.
abbrev pub Does : Task → Node → NodeAnswer → List Deed → Node → Type 0
Does (Takes c m) old answer ds new = Works old (says c m ∷ []) answer ds new
Does (HangsUp c) old answer ds new = Closes old c answer new × (ds ≡ [])
Does Saves old answer ds new =
    (result : Result (Unit {0}) NodeFault)
    × (Snaps old result new × ((answer ≡ silent result) × (ds ≡ [])))
Does (Halts xs) old answer ds new =
    (result : Result (Vec Deed) NodeFault)
    × (Stops old xs result new × ((answer ≡ silent result) × (ds ≡ added result)))

-- what is sent if there is no room for a task: a client whose message it is is refused
abbrev pub without_room : Task → List (ℕ × Reply)
without_room (Takes c m) = (c, refused refusals.Full) ∷ []
without_room _ = []

-- what a server sends with an answer
abbrev pub sends_of : Task → NodeAnswer → List (ℕ × Reply)
sends_of task (Sent sends) = sends
sends_of task IsFull = without_room task
sends_of task IsDown = []

-- A server was asked to do this; of the packets, these count as delivered.
pub record HasServed (task : Task) (s : ℕ) (ks : List ℕ) (w : World) (told : Told) (new : World)
    : Type 0 where
  pub server : Server
  pub there : slice_get w.servers s ≡ Some server
  pub answer : NodeAnswer
  pub deeds : List Deed
  pub node : Node
  pub done : Does task server.node answer deeds node
  pub servers : new.servers
      ≡ slice_set w.servers s (record { deeds = server.deeds ++ deeds; node = node })
  pub members : new.members ≡ w.members
  pub packets : new.packets ≡ delivered ks w.packets ++ map (sent_from s) (sends_of task answer)
  pub told_is : told ≡ served s answer

-- A packet is delivered: a message to its server, or a reply to its client.
abbrev pub Carries : Body → Packet → ℕ → World → Told → World → Type 0
Carries (bodies.Message m) p k = HasServed (Takes p.client m) p.server (k ∷ [])
Carries (bodies.Reply r) p k = HasReacted (Receive p.server r) p.client (k ∷ [])

-- the packet is delivered, if there is one
abbrev pub Delivers : Option Packet → ℕ → World → Told → World → Type 0
Delivers None k w told new = ⊥
Delivers (Some p) k w told new = Carries p.body p k w told new

-- The packet of this number is this message of a client to the server.
pub record IsMessageAt (ps : List Packet) (s k : ℕ) (m : ℕ × Message) : Type 0 where
  pub packet : Packet
  pub there : slice_get ps k ≡ Some packet
  pub server : packet.server ≡ s
  pub client : packet.client ≡ m.0
  pub body : packet.body ≡ bodies.Message m.1

-- The packets of these numbers are these messages to the server.
abbrev pub AreMessagesAt : List Packet → ℕ → List ℕ → List (ℕ × Message) → Type 0
AreMessagesAt ps s [] ms = ms ≡ []
AreMessagesAt ps s (k ∷ ks) [] = ⊥
AreMessagesAt ps s (k ∷ ks) (m ∷ ms) = IsMessageAt ps s k m × AreMessagesAt ps s ks ms

-- A server is stopped at work on these packets.
pub record IsStopped (s : ℕ) (ks : List ℕ) (w : World) (told : Told) (new : World) : Type 0 where
  pub messages : List (ℕ × Message)
  pub in_hand : AreMessagesAt w.packets s ks messages
  pub halted : HasServed (Halts (comings messages)) s ks w told new

-- One step.
abbrev pub Steps : World → WorldEvent → Told → World → Type 0
Steps w (events.Out c row) told new = HasReacted (calls.Out row) c [] w told new
Steps w (events.Sync c event) told new = HasReacted (calls.Sync (tree_of event)) c [] w told new
Steps w (events.Abandon c) told new = HasReacted Abandon c [] w told new
Steps w (events.Leave c) told new = HasReacted Leave c [] w told new
Steps w (events.Deliver k) told new = Delivers (slice_get w.packets k) k w told new
Steps w (events.Tick c now) told new = HasReacted (calls.Tick now) c [] w told new
Steps w (events.Resend c) told new = HasReacted Resend c [] w told new
Steps w (events.Reconnect c s) told new = HasReacted (calls.Reconnected s) c [] w told new
Steps w (events.Close s c) told new = HasServed (HangsUp c) s [] w told new
Steps w (events.Snapshot s) told new = HasServed Saves s [] w told new
Steps w (events.Stop s packets at torn) told new = IsStopped s packets.items w told new
Steps w (events.StopSnapshot s at torn) told new = HasServed (Halts []) s [] w told new

-- A client joins, whose number no other has.
pub record HasJoined (c : ℕ) (w new : World) : Type 0 where
  pub unknown : maps.get w.members c ≡ None
  pub servers : new.servers ≡ w.servers
  pub members : new.members
      ≡ maps.insert w.members c (record { client = new_client c (length w.servers); got = [] })
  pub packets : new.packets ≡ w.packets
