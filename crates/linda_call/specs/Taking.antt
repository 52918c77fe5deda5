-- Taking of what a server brings.
use Rattle.std.specs.Prelude.{◌≡◌, ℕ, true, false, List, Result, Ok, Err, IfOk, IfErr}
use Rattle.std.specs.List.{list_any}
use Rattle.linda_net_proxy.specs.declared.server_events.ServerEvent.{ServerEvent}
use Rattle.linda_net_proxy.specs.declared.server_events.ServerEvent.TheVariants.{Greeted, Came}
use Rattle.linda_net_proxy.specs.declared.server_events.ServerEvent.TheVariants.{Refused}
use Rattle.linda_net_proxy.specs.declared.server_events.ServerEvent.TheVariants.{NotAServer}
use Rattle.linda_net_proxy.specs.declared.server_events.ServerEvent.TheVariants.{NoConnection}
use Rattle.linda_net_proxy.specs.declared.server_events.ServerEvent.TheVariants.{Memory}
use Rattle.linda_client.specs.React as calls
use Rattle.linda_client.specs.React.{react}
use Rattle.linda_client.specs.Reaction.{shown}
use Rattle.linda_client.specs.declared.reaction.Reaction.{Reaction as Told}
use Rattle.linda_call.specs.Numbers.{homeward_of, answered_in}
use Rattle.linda_call.specs.Party.{Hears, asked, is_ask}
use Rattle.linda_call.specs.Standings.{standing_at, with_standing, answered, welcomed, meeting}
use Rattle.linda_call.specs.Standings.{is_foreign}
use Rattle.linda_call.specs.declared.calling.standing.Meeting.TheVariants as meetings
use Rattle.linda_call.specs.declared.calling.party.Party.{Party}
use Rattle.linda_call.specs.declared.calling.standing.ServerStanding.{ServerStanding}
use Rattle.linda_call.specs.declared.calling.fault.CallFault.{CallFault}
use Rattle.linda_call.specs.declared.calling.fault.CallFault.TheVariants as faults

-- What a server brings is taken so: the client sees a reply by its own numbers, unless the reply
-- cannot answer what was sent; after a welcome it sends again what is pending there, unless the
-- server keeps less than it answered or more than it was sent; all else ends the call.
abbrev pub IsTaken : Party → ℕ → ServerEvent → Result Told CallFault → Party → Type 0
IsTaken old server (Came reply) result new =
    (IfOk result (λ told. Hears old.client server
    (homeward_of (standing_at old.standings.items server).base reply) told new.client))
    × (is_foreign (standing_at old.standings.items server) reply ≡ true
    → result ≡ Err (faults.InUse server))
    × (is_foreign (standing_at old.standings.items server) reply ≡ false
    → IfErr result (λ f. f ≡ faults.Memory))
IsTaken old server (Greeted last) result new =
    (IfOk result (λ told.
    (react old.client (calls.Reconnected server) ≡ Ok (shown told old.client))))
    × (new.client ≡ old.client)
    × (meeting last (standing_at old.standings.items server) ≡ meetings.Known
    → IfErr result (λ f. f ≡ faults.Memory))
    × (meeting last (standing_at old.standings.items server) ≡ meetings.Restored
    → result ≡ Err (faults.Restored server))
    × (meeting last (standing_at old.standings.items server) ≡ meetings.InUse
    → result ≡ Err (faults.InUse server))
IsTaken old server (Refused code detail) result new =
    result ≡ Err (faults.Refused server code detail)
IsTaken old server NotAServer result new = result ≡ Err (faults.NotAServer server)
IsTaken old server NoConnection result new = result ≡ Err (faults.NoConnection server)
IsTaken old server Memory result new = result ≡ Err faults.Memory

-- The client's standings with its servers once what a server brings was taken well: a reply may
-- have answered a number, and a server that welcomes the client is met.
abbrev pub standings_after : Party → ℕ → ServerEvent → Told → List ServerStanding
standings_after old server (Came reply) told = with_standing old.standings.items server
    (answered (standing_at old.standings.items server) (answered_in reply))
standings_after old server (Greeted last) told = with_standing old.standings.items server
    (asked (list_any (λ p. is_ask p.1) told.packets.items)
    (welcomed old.goes_on last (standing_at old.standings.items server)))
standings_after old server (Refused code detail) told = old.standings.items
standings_after old server NotAServer told = old.standings.items
standings_after old server NoConnection told = old.standings.items
standings_after old server Memory told = old.standings.items
