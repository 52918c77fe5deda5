-- Uses of a number or a ticket by a client, counted. To send again what was sent before is no new
-- use.
use Rattle.std.specs.Prelude.{◌≡◌, ℕ, ◌==◌, ◌≤◌, Bool, true, false, ◌&&◌, if◌then◌else◌}
use Rattle.std.specs.Prelude.{List, [], ◌∷◌, ◌++◌, Option, Some, None, All, Contains, count_by}
use Rattle.std.specs.Prelude.{flat_map}
use Rattle.linda_wire.specs.declared.message.Message.{Message}
use Rattle.linda_wire.specs.declared.message.Message.TheVariants as messages
use Rattle.linda_client.specs.Packets.{Packet}
use Rattle.linda_client.specs.React.{Call, Out, Sync, Receive, Tick, Resend, Reconnected, Abandon}
use Rattle.linda_client.specs.React.{Leave}
use Rattle.linda_client.specs.History.{Act}

-- whether the call only asks for what was sent before
abbrev pub is_repeat : Call → Bool
is_repeat (Out row) = false
is_repeat (Sync event) = false
is_repeat (Receive server reply) = false
is_repeat (Tick now) = false
is_repeat Resend = true
is_repeat (Reconnected server) = true
is_repeat Abandon = false
is_repeat Leave = false

-- what is sent anew at a call: all that is sent, unless the call is a repeat
abbrev pub anew : Act → List Packet
anew act = if is_repeat act.call then [] else act.reaction.packets

-- all packets that were sent anew, in order
abbrev pub all_anew : List Act → List Packet
all_anew acts = flat_map anew acts

-- the ticket of an Ask; no other message uses one
abbrev pub ticket_of : Message → Option ℕ
ticket_of (messages.Hello version client fresh) = None
ticket_of (messages.Out n row) = None
ticket_of (messages.Ask ticket remove template) = Some ticket
ticket_of (messages.Accept n ticket id) = None
ticket_of (messages.Cancel ticket) = None
ticket_of (messages.Leave n) = None

-- whether this number is there
abbrev pub is_number : Option ℕ → ℕ → Bool
is_number None n = false
is_number (Some m) n = m == n

-- whether the packet goes to this server under this number, as `of` gives a message's number
abbrev pub is_under : (Message → Option ℕ) → ℕ → ℕ → Packet → Bool
is_under of server n p = is_number (of p.1) n && (p.0 == server)

-- how often the number is used at the server
abbrev pub uses : (Message → Option ℕ) → List Act → ℕ → ℕ → ℕ
uses of acts server n = count_by (is_under of server n) (all_anew acts)

-- Each number is used at most once at each server.
abbrev pub AreUsedOnce : (Message → Option ℕ) → List Act → Type 0
AreUsedOnce of acts = (server n : ℕ) → uses of acts server n ≤ 1

-- What a repeat sends was sent anew before.
abbrev pub RepeatsAreOld : List Act → Type 0
RepeatsAreOld acts =
    (before later : List Act) (act : Act) → acts ≡ before ++ act ∷ later
    → is_repeat act.call ≡ true → All (Contains (all_anew before)) act.reaction.packets
