-- A client over many calls: what it sends, and which synchronizations end.
use Rattle.std.specs.Prelude.{◌≡◌, ◌≤◌, ℕ, Bool, true, false, List, [], ◌∷◌, Option, Some, None, Ok}
use Rattle.std.specs.Prelude.{Err, Contains, count_by, flat_map}
use Rattle.linda_tuple.specs.Template.{Template}
use Rattle.linda_wire.specs.declared.message.Message.{Message}
use Rattle.linda_wire.specs.declared.message.Message.TheVariants as messages
use Rattle.linda_client.specs.declared.limits.TheConstants.{MAX_SERVERS}
use Rattle.linda_client.specs.declared.outcome.Outcome.{Outcome}
use Rattle.linda_client.specs.declared.outcome.Outcome.TheVariants.{Stored, Synced, Dropped, Left}
use Rattle.linda_client.specs.Client.{Client}
use Rattle.linda_client.specs.Packets.{Packet}
use Rattle.linda_client.specs.Reaction.{Answer, Reaction}
use Rattle.linda_client.specs.React.{Call, Out, Sync, Receive, Tick, Resend, Reconnected, Abandon}
use Rattle.linda_client.specs.React.{Leave, new_client}
use Rattle.linda_client.specs.React.{react}
use Rattle.linda_client.specs.Numbers.{number_of}

-- A call that was answered, and what it came to.
pub record Act : Type 0 where
  pub call : Call
  pub reaction : Reaction

-- a call with its answer, and what follows from the client after it; a call that is refused changes
-- nothing, and is left out
abbrev pub act_then : Client → Call → Answer → (Client → List Act) → List Act
act_then c call (Ok r) follow = record { call = call; reaction = r } ∷ follow r.client
act_then c call (Err fault) follow = follow c

-- What comes of calls, one after another.
abbrev pub history : Client → List Call → List Act
history c [] = []
history c (call ∷ calls) = act_then c call (react c call) (λ d. history d calls)

-- all packets that were sent, in order
abbrev pub all_sent : List Act → List Packet
all_sent acts = flat_map (λ e. e.reaction.packets) acts

-- whether an outcome is the end of a synchronization
abbrev pub is_end : Option Outcome → Bool
is_end None = false
is_end (Some (Stored server id)) = false
is_end (Some (Synced base got labels raised)) = true
is_end (Some (Dropped raised)) = true
is_end (Some Left) = false

-- whether the call is one of `sync`
abbrev pub is_sync : Call → Bool
is_sync (Out row) = false
is_sync (Sync event) = true
is_sync (Receive server reply) = false
is_sync (Tick now) = false
is_sync Resend = false
is_sync (Reconnected server) = false
is_sync Abandon = false
is_sync Leave = false

-- how many synchronizations ended
abbrev pub end_count : List Act → ℕ
end_count acts = count_by (λ e. is_end e.reaction.outcome) acts

-- how many calls of `sync` were answered
abbrev pub sync_count : List Act → ℕ
sync_count acts = count_by (λ e. is_sync e.call) acts

-- Two numbered messages to one server under one number are the same.
abbrev pub NumbersAreOnce : List Packet → Type 0
NumbersAreOnce sent =
    (server n : ℕ) (a b : Message) → Contains sent (server, a) → Contains sent (server, b)
    → number_of a ≡ Some n → number_of b ≡ Some n → a ≡ b

-- Two Asks under one ticket, to whichever servers, ask the same.
abbrev pub TicketsAreOnce : List Packet → Type 0
TicketsAreOnce sent =
    (s t ticket : ℕ) (p q : Bool) (x y : Template) → Contains sent (s, messages.Ask ticket p x)
    → Contains sent (t, messages.Ask ticket q y) → (p ≡ q) × (x ≡ y)

-- P holds of the history of a new client, for all calls.
abbrev pub FromNew : (List Act → Type 0) → Type 0
FromNew P = (number count : ℕ) (calls : List Call) → 1 ≤ count → count ≤ MAX_SERVERS
    → P (history (new_client number count) calls)
