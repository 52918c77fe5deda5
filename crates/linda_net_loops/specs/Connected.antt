-- Sessions of connections, and what a call does to one.
use Rattle.std.specs.Prelude.{◌≡◌, ◌⊎◌, List, [], ◌∷◌, ◌++◌}
use Rattle.linda_wire.specs.declared.reply.Reply.{Reply}
use Rattle.linda_wire.specs.declared.refusal.Refusal.TheVariants as refusals
use Rattle.linda_wire.specs.Refusal.{refused}
use Rattle.linda_net_session.specs.declared.route.Route.{Route}
use Rattle.linda_net_session.specs.declared.route.Route.TheVariants as routes
use Rattle.linda_net_session.specs.declared.phase.Phase.{Phase}
use Rattle.linda_net_session.specs.declared.phase.Phase.TheVariants as phases
use Rattle.linda_net_session.specs.Session.{Session}
use Rattle.linda_net_session.specs.Between.{TakesNothing, TakesOne}
use Rattle.linda_net_loops.specs.declared.connection.ConnectionEvent.{ConnectionEvent}
use Rattle.linda_net_loops.specs.declared.connection.ConnectionEvent.TheVariants as nexts

-- Of a message that was taken only a second Hello is answered at once: Busy, unless memory ran out.
abbrev pub TellsOnly : Route → List Reply → List Reply → Type 0
TellsOnly routes.Greet old new = new ≡ old
TellsOnly routes.Busy old new = (new ≡ old ++ refused refusals.Busy ∷ []) ⊎ (new ≡ old)
TellsOnly (routes.Goes way) old new = new ≡ old
TellsOnly routes.Keep old new = new ≡ old

-- A message that is given was taken, with the route that its session says, and only a second Hello
-- is answered; else nothing was taken.
abbrev pub Gives : Session → ConnectionEvent → Session → Type 0
Gives old (nexts.Message m route) new =
    TakesOne old m route new × TellsOnly route old.told new.told
Gives old nexts.Kept new = TakesNothing old new
Gives old nexts.None new = TakesNothing old new
Gives old nexts.Later new = TakesNothing old new

-- What a call for a session that is greeting does; any other session stays as it is.
abbrev pub IfGreeting : Phase → Session → Session → Type 0 → Type 0
IfGreeting phases.Fresh old new What = new ≡ old
IfGreeting phases.Greeting old new What = What
IfGreeting (phases.Open asks deeds) old new What = new ≡ old
