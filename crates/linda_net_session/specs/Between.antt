-- Sessions between two moments: what was taken, and what went out.
use Rattle.std.specs.Prelude.{◌≡◌, ◌⊎◌, ◌++◌, ◌∷◌, []}
use Rattle.linda_wire.specs.declared.message.Message.{Message}
use Rattle.linda_net_session.specs.declared.end.SessionEnd.TheVariants as ends
use Rattle.linda_net_session.specs.declared.route.Route.{Route}
use Rattle.linda_net_session.specs.Session.{Session}
use Rattle.linda_net_session.specs.Turns.{Finishes}

-- Nothing was taken, queued or sent, and it is as far as it was.
abbrev pub TakesNothing : Session → Session → Type 0
TakesNothing old new =
    (new.taken ≡ old.taken) × (new.told ≡ old.told) × (new.sent ≡ old.sent)
    × (new.phase ≡ old.phase)

-- One message was taken, and goes there.
abbrev pub TakesOne : Session → Message → Route → Session → Type 0
TakesOne old m route new = new.taken ≡ old.taken ++ (m, route) ∷ []

-- Bytes that waited went out, in order: none is left out, and none goes out twice, unless the
-- session is broken.
abbrev pub Sends : Session → Session → Type 0
Sends old new =
    (new.taken ≡ old.taken) × (new.told ≡ old.told)
    × (((new.sent ++ new.pending ≡ old.sent ++ old.pending) × (new.ends ≡ old.ends))
    ⊎ (new.ends ≡ ends.Broken))

-- Its last word was queued, if it was due, and then bytes went out.
abbrev pub Flushes : Session → Session → Type 0
Flushes old new = (told : Session) × (Finishes old told × Sends told new)
