-- Party of a call: what it makes of lines, of the clock and of what comes from its servers.
use Rattle.std.specs.Prelude.{◌≡◌, ℕ, Bool, true, false, if◌then◌else◌, List, [], Option, Some}
use Rattle.std.specs.Prelude.{None, Ok}
use Rattle.linda_wire.specs.declared.message.Message.{Message}
use Rattle.linda_wire.specs.declared.message.Message.TheVariants as message
use Rattle.linda_wire.specs.declared.reply.Reply.{Reply}
use Rattle.linda_shell_text.specs.declared.request.Request.{Request}
use Rattle.linda_shell_text.specs.declared.request.Request.TheVariants as request
use Rattle.linda_client.specs.Client.{Client}
use Rattle.linda_client.specs.declared.call.Call.TheVariants as given
use Rattle.linda_client.specs.Call.{call_of}
use Rattle.linda_client.specs.React as calls
use Rattle.linda_client.specs.React.{react}
use Rattle.linda_client.specs.Reaction.{shown}
use Rattle.linda_client.specs.declared.reaction.Reaction.{Reaction as Told}
use Rattle.linda_call.specs.Standings.{standing_at}
use Rattle.linda_call.specs.declared.calling.standing.ServerStanding.{ServerStanding}

-- The call of the client that a request is.
abbrev pub call_for : Request → calls.Call
call_for (request.Out tuple) = call_of (given.Out tuple)
call_for (request.Sync event) = call_of (given.Sync event)
call_for request.Leave = call_of given.Leave

-- whether a message is an Ask
abbrev pub is_ask : Message → Bool
is_ask (message.Hello version client fresh) = false
is_ask (message.Out n tuple) = false
is_ask (message.Ask ticket remove template) = true
is_ask (message.Accept n ticket id) = false
is_ask (message.Cancel ticket) = false
is_ask (message.Leave n) = false

-- the offer that was accepted last, after a message to this server
abbrev pub accepted_after : Option (ℕ × ℕ) → ℕ → Message → Option (ℕ × ℕ)
accepted_after before server (message.Hello version client fresh) = before
accepted_after before server (message.Out n tuple) = before
accepted_after before server (message.Ask ticket remove template) = before
accepted_after before server (message.Accept n ticket id) = Some (server, ticket)
accepted_after before server (message.Cancel ticket) = before
accepted_after before server (message.Leave n) = before

-- The offer whose ticket is cancelled once what was pending has ended: the one that was accepted
-- last, if something was asked for again at its server.
abbrev pub cancelled_at : List ServerStanding → Option (ℕ × ℕ) → Option (ℕ × ℕ)
cancelled_at standings None = None
cancelled_at standings (Some offer) =
    if (standing_at standings offer.0).asked_again then Some offer else None

-- nothing is sent and nothing is reported
abbrev pub IsQuiet : Told → Type 0
IsQuiet told = (told.packets.items ≡ []) × (told.outcome ≡ None) × (told.fault ≡ None)

-- What the client does with the reply that it sees, if there is one for it.
abbrev pub Hears : Client → ℕ → Option Reply → Told → Client → Type 0
Hears old server None told new = IsQuiet told × (new ≡ old)
Hears old server (Some reply) told new =
    react old (calls.Receive server reply) ≡ Ok (shown told new)

-- what a server that welcomes the client is known to have: it was asked again if Asks are sent to
-- it
abbrev pub asked : Bool → ServerStanding → ServerStanding
asked is_asked s = if is_asked then record s { asked_again = true } else s
