-- Turns of a session, which its calls make.
use Rattle.std.specs.Prelude.{◌≡◌, ◌⊎◌, ℕ, nat_lt, Bool, true, false, List, Option, Some, None}
use Rattle.linda_wire.specs.declared.message.Message.{Message}
use Rattle.linda_wire.specs.declared.refusal.Refusal.TheVariants as refusals
use Rattle.linda_wire.specs.declared.reply.Reply.{Reply}
use Rattle.linda_wire.specs.Refusal.{refused}
use Rattle.linda_wire.specs.Stream.{Front, Partial, Whole, Broken, message_front}
use Rattle.linda_net_session.specs.declared.end.SessionEnd.{SessionEnd}
use Rattle.linda_net_session.specs.declared.end.SessionEnd.TheVariants as ends
use Rattle.linda_net_session.specs.declared.phase.Phase.{Phase}
use Rattle.linda_net_session.specs.declared.route.OpenWays.{OpenWays}
use Rattle.linda_net_session.specs.declared.route.Route.{Route}
use Rattle.linda_net_session.specs.declared.route.Route.TheVariants as routes
use Rattle.linda_net_session.specs.Place.{place, kind_of, on_way, is_keep}
use Rattle.linda_net_session.specs.Session.{Session, is_closed, may_take, word_of}
use Rattle.linda_net_session.specs.Session.{ended, at_rest, took, said, broken}

-- This reply is queued; if there is no memory for it, the session is broken.
abbrev pub Says : Reply → Session → Session → Type 0
Says r old new = (new ≡ said r old) ⊎ (new ≡ broken old)

-- This reply is queued; if nothing more is queued, nothing changes.
abbrev pub TellsBy : Bool → Reply → Session → Session → Type 0
TellsBy true r old new = new ≡ old
TellsBy false r old new = Says r old new

abbrev pub Tells : Reply → Session → Session → Type 0
Tells r old new = TellsBy (is_closed old.ends) r old new

-- What follows of a message that was taken, by its route: a second Hello is refused.
abbrev pub Leads : Route → Session → Session → Type 0
Leads routes.Greet old new = new ≡ old
Leads routes.Busy old new = Says (refused refusals.Busy) old new
Leads (routes.Goes way) old new = new ≡ old
Leads routes.Keep old new = new ≡ old

-- Where the message goes, and how far the session is then.
abbrev pub placed : OpenWays → Message → Session → Route × Phase
placed room m s = place s.phase (kind_of m) room

-- The message at the front was taken, and went here.
pub record Takes (room : OpenWays) (old : Session) (m : Message) (route : Route) (new : Session)
    : Type 0 where
  pub may : may_take old ≡ true
  pub rest : List ℕ
  pub front : message_front old.unread ≡ Whole m rest
  pub goes : route ≡ (placed room m old).0
  pub away : is_keep route ≡ false
  pub leads : Leads route (took m rest (placed room m old) old) new

-- Nothing was taken. A message at the front that cannot go stays there; one for which there is no
-- memory ends the session. If none is whole the session rests. A fault ends it with its offset.
abbrev pub Waits : OpenWays → Session → Front Message → Session → Type 0
Waits room old Partial new = new ≡ at_rest old
Waits room old (Whole m rest) new =
    (((placed room m old).0 ≡ routes.Keep) × (new ≡ old)) ⊎ (new ≡ ended None old)
Waits room old (Broken fault) new = new ≡ ended (word_of fault) old

abbrev pub WaitsBy : Bool → OpenWays → Session → Session → Type 0
WaitsBy true room old new = Waits room old (message_front old.unread) new
WaitsBy false room old new = new ≡ old

-- What a call for the next message did.
abbrev pub Nexts : OpenWays → Session → Option (Message × Route) → Session → Type 0
Nexts room old (Some found) new = Takes room old found.0 found.1 new
Nexts room old None new = WaitsBy (may_take old) room old new

-- The last word is queued, if there is one.
abbrev pub Closes : SessionEnd → Session → Session → Type 0
Closes ends.Never old new = new ≡ old
Closes ends.Shut old new = new ≡ old
Closes (ends.Ending None) old new = new ≡ record old { ends = ends.Told None }
Closes (ends.Ending (Some word)) old new =
    (new ≡ record (said (refused word) old) { ends = ends.Told (Some word) }) ⊎ (new ≡ broken old)
Closes (ends.Told word) old new = new ≡ old
Closes ends.Broken old new = new ≡ old

abbrev pub FinishesBy : Bool → Session → Session → Type 0
FinishesBy true old new = new ≡ old
FinishesBy false old new = Closes old.ends old new

-- What a call to finish did: nothing as long as something is on its way.
abbrev pub Finishes : Session → Session → Type 0
Finishes old new = FinishesBy (nat_lt 0 (on_way old.phase)) old new
