-- Beginning of a call that waits for an event: what it finds before it asks a server.
use Rattle.std.specs.Prelude.{◌≡◌, ◌+◌, ◌≤◌, length, Option, Some, None, Result, Ok, Err}
use Rattle.linda_wire.specs.declared.limits.TheConstants.{NUMBER_LIMIT}
use Rattle.linda_event.specs.Limits.{IsWithinLimits}
use Rattle.linda_event.specs.Trees.{Tree}
use Rattle.linda_client.specs.declared.fault.ClientFault.{ClientFault}
use Rattle.linda_client.specs.declared.reaction.Reaction.{Reaction as Told}
use Rattle.linda_client.specs.Ask.{asks}
use Rattle.linda_client.specs.Client.{Client}
use Rattle.linda_client.specs.React.{ask_servers, on_sync}
use Rattle.linda_client.specs.Reaction.{IsRefusal, shown}

-- The servers are asked: nothing of the event is ready, it is within its limits, and so are its
-- tickets.
pub record MustAsk (c : Client) (event : Tree) : Type 0 where
  pub answer : on_sync c event ≡ Ok (ask_servers c event)
  pub within : IsWithinLimits event
  pub room : c.ticket + length (asks event) ≤ NUMBER_LIMIT

-- What is found at once: the servers are asked, or a base is ready and the client stays as it is;
-- or the call is refused, or memory runs out.
abbrev pub AtOnce : Client → Tree → Result (Option Told) ClientFault → Type 0
AtOnce c event (Ok None) = MustAsk c event
AtOnce c event (Ok (Some told)) = on_sync c event ≡ Ok (shown told c)
AtOnce c event (Err fault) = IsRefusal fault (on_sync c event)
