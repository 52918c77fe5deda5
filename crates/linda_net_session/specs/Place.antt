-- Places of a session's messages.
use Rattle.std.specs.Prelude.{ℕ, ◌+◌, ◌-◌, ◌==◌, ◌&&◌, nat_lt, Bool, true, false, if◌then◌else◌}
use Rattle.linda_wire.specs.declared.message.Message.{Message}
use Rattle.linda_wire.specs.declared.message.Message.TheVariants as messages
use Rattle.linda_net_session.specs.declared.phase.TheConstants.{MOST_ASKED}
use Rattle.linda_net_session.specs.declared.phase.Phase.{Phase}
use Rattle.linda_net_session.specs.declared.phase.Phase.TheVariants as phases
use Rattle.linda_net_session.specs.declared.phase.Way.{Way}
use Rattle.linda_net_session.specs.declared.phase.Way.TheVariants as ways
use Rattle.linda_net_session.specs.declared.route.MessageKind.{MessageKind}
use Rattle.linda_net_session.specs.declared.route.MessageKind.TheVariants as kinds
use Rattle.linda_net_session.specs.declared.route.OpenWays.{OpenWays}
use Rattle.linda_net_session.specs.declared.route.Route.{Route}
use Rattle.linda_net_session.specs.declared.route.Route.TheVariants as routes

-- How many messages are on their way.
abbrev pub on_way : Phase → ℕ
on_way phases.Fresh = 0
on_way phases.Greeting = 1
on_way (phases.Open asks deeds) = asks + deeds

-- One that went this way came back.
abbrev pub answered : Way → Phase → Phase
answered way phases.Fresh = phases.Fresh
answered way phases.Greeting = phases.Greeting
answered ways.Asks (phases.Open asks deeds) = phases.Open (asks - 1) deeds
answered ways.Deeds (phases.Open asks deeds) = phases.Open asks (deeds - 1)

-- A Hello, a message that bears no number, or one that does.
abbrev pub kind_of : Message → MessageKind
kind_of (messages.Hello version client fresh) = kinds.Hello
kind_of (messages.Out n tuple) = kinds.Deed
kind_of (messages.Ask ticket remove template) = kinds.Ask
kind_of (messages.Accept n ticket id) = kinds.Deed
kind_of (messages.Cancel ticket) = kinds.Ask
kind_of (messages.Leave n) = kinds.Deed

-- Whether one more may go.
abbrev pub has_few : ℕ → ℕ → Bool
has_few asks deeds = nat_lt asks MOST_ASKED && nat_lt deeds (MOST_ASKED - asks)

-- One more of which no deed comes, if there is room and few are on their way.
abbrev pub place_ask : ℕ → ℕ → Bool → Route × Phase
place_ask asks deeds has_room =
    if has_room && has_few asks deeds
    then (routes.Goes ways.Asks, phases.Open (asks + 1) deeds)
    else (routes.Keep, phases.Open asks deeds)

-- One more on the way of deeds, likewise.
abbrev pub place_deed : ℕ → ℕ → Bool → Route × Phase
place_deed asks deeds has_room =
    if has_room && has_few asks deeds
    then (routes.Goes ways.Deeds, phases.Open asks (deeds + 1))
    else (routes.Keep, phases.Open asks deeds)

-- Where a message goes, and how far its session is then. The first one greets, and nothing goes
-- while that is on its way. A second Hello is refused, once all is answered. An Ask after a deed of
-- its own session goes with the deeds.
abbrev pub place : Phase → MessageKind → OpenWays → Route × Phase
place phases.Fresh kind room = (routes.Greet, phases.Greeting)
place phases.Greeting kind room = (routes.Keep, phases.Greeting)
place (phases.Open asks deeds) kinds.Hello room =
    if (asks == 0) && (deeds == 0)
    then (routes.Busy, phases.Open asks deeds)
    else (routes.Keep, phases.Open asks deeds)
place (phases.Open asks deeds) kinds.Ask room =
    if deeds == 0 then place_ask asks deeds room.asks else place_deed asks deeds room.deeds
place (phases.Open asks deeds) kinds.Deed room = place_deed asks deeds room.deeds

-- Whether it goes nowhere yet.
abbrev pub is_keep : Route → Bool
is_keep routes.Greet = false
is_keep routes.Busy = false
is_keep (routes.Goes way) = false
is_keep routes.Keep = true
