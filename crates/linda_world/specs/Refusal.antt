-- Refusals of events, and their reasons. A refused event changes nothing.
use Rattle.std.specs.Prelude.{ℕ, ◌==◌, nat_lt, Bool, true, false, ◌&&◌, if◌then◌else◌, List, length}
use Rattle.std.specs.Prelude.{Option, Some, None}
use Rattle.std.specs.List.{slice_get, list_all}
use Rattle.std.specs.FinMap as map
use Rattle.linda_event.specs.Trees.{tree_of}
use Rattle.linda_store_step.specs.declared.size.TheConstants.{MAX_BATCH}
use Rattle.linda_client.specs.declared.fault.ClientFault.{ClientFault}
use Rattle.linda_client.specs.declared.fault.ClientFault.TheVariants as refusals
use Rattle.linda_client.specs.React as calls
use Rattle.linda_client.specs.React.{Receive, Resend, Abandon, Leave}
use Rattle.linda_world_laws.specs.declared.event.WorldEvent.{WorldEvent}
use Rattle.linda_world_laws.specs.declared.event.WorldEvent.TheVariants as events
use Rattle.linda_world_laws.specs.declared.packet.Body.{Body}
use Rattle.linda_world_laws.specs.declared.packet.Body.TheVariants as bodies
use Rattle.linda_world_laws.specs.declared.packet.Packet.{Packet}
use Rattle.linda_world_laws.specs.World.{Member, World}
use Rattle.linda_world.specs.declared.fault.WorldFault.{WorldFault}
use Rattle.linda_world.specs.declared.fault.WorldFault.TheVariants as faults
use Rattle.linda_world.specs.Member.{refusal_to}

-- there is no such server
abbrev pub refusal_at : World → ℕ → Option WorldFault
refusal_at w s = if nat_lt s (length w.servers) then None else Some faults.NoServer

-- whether the packet is a message to the server
abbrev pub is_message_body : Body → Bool
is_message_body (bodies.Message m) = true
is_message_body (bodies.Reply r) = false

abbrev pub is_message_to : Option Packet → ℕ → Bool
is_message_to None s = false
is_message_to (Some p) s = (p.server == s) && is_message_body p.body

abbrev pub is_message_at : List Packet → ℕ → ℕ → Bool
is_message_at ps s k = is_message_to (slice_get ps k) s

-- a server cannot be stopped at work on these packets: there is no such server, one is no message
-- to it, or they are too many
abbrev pub refusal_of_stop : World → ℕ → List ℕ → Option WorldFault
refusal_of_stop w s ks =
    if nat_lt s (length w.servers) then
    (if list_all (is_message_at w.packets s) ks then
    (if nat_lt MAX_BATCH (length ks) then Some faults.TooManyPackets else None)
    else Some faults.NoPacket)
    else Some faults.NoServer

-- a packet cannot be delivered: there is no such server, or its client refuses it
abbrev pub refusal_by : World → Packet → Body → Option WorldFault
refusal_by w p (bodies.Message m) = refusal_at w p.server
refusal_by w p (bodies.Reply r) = refusal_to (map.get w.members p.client) (Receive p.server r)

abbrev pub refusal_of_packet : World → Option Packet → Option WorldFault
refusal_of_packet w None = Some faults.NoPacket
refusal_of_packet w (Some p) = refusal_by w p p.body

-- Why the event is refused, if it is.
abbrev pub refusal : World → WorldEvent → Option WorldFault
refusal w (events.Out c row) = refusal_to (map.get w.members c) (calls.Out row)
refusal w (events.Sync c event) = refusal_to (map.get w.members c) (calls.Sync (tree_of event))
refusal w (events.Abandon c) = refusal_to (map.get w.members c) Abandon
refusal w (events.Leave c) = refusal_to (map.get w.members c) Leave
refusal w (events.Deliver k) = refusal_of_packet w (slice_get w.packets k)
refusal w (events.Tick c now) = refusal_to (map.get w.members c) (calls.Tick now)
refusal w (events.Resend c) = refusal_to (map.get w.members c) Resend
refusal w (events.Reconnect c s) = refusal_to (map.get w.members c) (calls.Reconnected s)
refusal w (events.Close s c) = refusal_at w s
refusal w (events.Snapshot s) = refusal_at w s
refusal w (events.Stop s packets at torn) = refusal_of_stop w s packets.items
refusal w (events.StopSnapshot s at torn) = refusal_at w s

-- why a packet is refused before it is copied, if it is: there is no such server; of a reply
-- nothing is asked before
abbrev pub early_refusal_by : World → Packet → Body → Option WorldFault
early_refusal_by w p (bodies.Message m) = refusal_at w p.server
early_refusal_by w p (bodies.Reply r) = None

abbrev pub early_refusal_of_packet : World → Option Packet → Option WorldFault
early_refusal_of_packet w None = Some faults.NoPacket
early_refusal_of_packet w (Some p) = early_refusal_by w p p.body

-- Why the event is refused before memory may run out, if it is: that is why it is refused, but a
-- reply that is delivered is copied before its client is asked.
abbrev pub early_refusal : World → WorldEvent → Option WorldFault
early_refusal w (events.Deliver k) = early_refusal_of_packet w (slice_get w.packets k)
early_refusal w event = refusal w event

-- why a client cannot join, if it cannot: its number is known
abbrev pub refusal_of_known : Option Member → Option WorldFault
refusal_of_known None = None
refusal_of_known (Some member) = Some faults.ClientKnown

abbrev pub refusal_of_join : World → ℕ → Option WorldFault
refusal_of_join w c = refusal_of_known (map.get w.members c)

-- a client's fault as the world returns it
abbrev pub world_fault : ClientFault → WorldFault
world_fault refusals.ServersRange = faults.Client refusals.ServersRange
world_fault refusals.Left = faults.Client refusals.Left
world_fault refusals.Busy = faults.Client refusals.Busy
world_fault refusals.Idle = faults.Client refusals.Idle
world_fault refusals.NoServer = faults.Client refusals.NoServer
world_fault refusals.TooDeep = faults.Client refusals.TooDeep
world_fault refusals.TooManyBases = faults.Client refusals.TooManyBases
world_fault refusals.Spent = faults.Client refusals.Spent
world_fault refusals.Memory = faults.Memory
