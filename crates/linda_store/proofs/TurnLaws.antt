-- A turn, from what was done with a message that is known to be of some kind.
use Rattle.std.proofs.Common.{◌≡◌, ℕ, Bool, true, List, refl}
use Rattle.std.specs.Prelude.{Option, Some, None}
use Rattle.linda_wire.specs.Refusal.{refused}
use Rattle.linda_wire.specs.declared.refusal.Refusal.TheVariants as refusals
use Rattle.linda_wire.specs.declared.message.Message.{Message}
use Rattle.linda_wire.specs.declared.reply.Reply.{Reply}
use Rattle.linda_store.specs.Node.{Node}
use Rattle.linda_store.specs.Turn.{Point, point_at, greeted_by, hello_of, IsAsked, IsTurnedAway, Turns}

pub greeting_turns : (node : Node) (greeted : Option ℕ) (m : Message) (client : ℕ) (said : List Reply) (to : Point)
    → greeted ≡ None → hello_of m ≡ Some client
    → IsAsked client m (greeted_by client) (point_at node None true) said to
    → Turns (point_at node greeted true) m said to
greeting_turns node greeted m client said to nobody hello asked =
    (refl, rw (nobody, hello) asked)

pub first_turns : (node : Node) (greeted : Option ℕ) (m : Message) (said : List Reply) (to : Point)
    → greeted ≡ None → hello_of m ≡ None
    → IsTurnedAway (refused refusals.NoHello) (point_at node greeted true) said to
    → Turns (point_at node greeted true) m said to
first_turns node greeted m said to nobody other turned =
    (refl, rw (nobody, other) (rw nobody at turned))

pub again_turns : (node : Node) (greeted : Option ℕ) (m : Message) (c client : ℕ) (said : List Reply) (to : Point)
    → greeted ≡ Some c → hello_of m ≡ Some client
    → IsTurnedAway (refused refusals.Busy) (point_at node greeted true) said to
    → Turns (point_at node greeted true) m said to
again_turns node greeted m c client said to somebody hello turned =
    (refl, rw (somebody, hello) (rw somebody at turned))

pub asking_turns : (node now : Node) (greeted : Option ℕ) (m : Message) (c : ℕ) (said : List Reply) (is_open : Bool)
    → greeted ≡ Some c → hello_of m ≡ None
    → IsAsked c m (λ _. Some c) (point_at node (Some c) true) said (point_at now (Some c) is_open)
    → Turns (point_at node greeted true) m said (point_at now greeted is_open)
asking_turns node now greeted m c said is_open somebody other asked =
    (refl, rw (somebody, other) asked)
