-- Reported deeds: which one a step does for a message, and how it is known from the reply.
use Rattle.std.specs.Prelude.{◌≡◌, ◌≢◌, ℕ, ◌+◌, ◌==◌, Bool, false, if◌then◌else◌}
use Rattle.std.specs.Prelude.{List, ◌∷◌, Option, Some, None, IsSome}
use Rattle.std.specs.FinMap as map
use Rattle.linda_hold.specs.Request.{request_of}
use Rattle.linda_wire.specs.declared.message.Message.{Message}
use Rattle.linda_wire.specs.declared.message.Message.TheVariants as messages
use Rattle.linda_wire.specs.declared.reply.Reply.{Reply}
use Rattle.linda_wire.specs.declared.reply.Reply.TheVariants as replies
use Rattle.linda_store_state.specs.declared.deed.Deed.{Deed}
use Rattle.linda_store_state.specs.declared.deed.Deed.TheVariants as deeds
use Rattle.linda_store_state.specs.Deed.{client_of, number_of}
use Rattle.linda_store_state.specs.State.{State}
pub use Rattle.linda_store_step.specs.Judge.{number_of_message}
use Rattle.linda_store_step.specs.Soft.{Soft}

-- What an Accept names is held no longer for its request.
abbrev pub LetsGo : ℕ → Message → Soft → Type 0
LetsGo c (messages.Accept n ticket id) soft = map.get soft.holds id ≢ Some (request_of c ticket)
LetsGo c _ soft = Unit {0}

-- The deed does what the client's message asks: it is the client's, it bears the message's number,
-- and an offer that was accepted is let go.
pub record DoesAsAsked (c : ℕ) (m : Message) (soft : Soft) (d : Deed) : Type 0 where
  pub client : client_of d ≡ c
  pub number : number_of_message m ≡ Some (number_of d)
  pub let_go : LetsGo c m soft

-- The deed is one that the client's message asks for: the client's, by the message's number; an Out
-- puts its tuple, an Accept takes the tuple of its id or passes it, and a Leave leaves.
abbrev pub IsDeedOf : ℕ → Message → Deed → Type 0
IsDeedOf c (messages.Out n tuple) (deeds.Out client m put) = (client ≡ c) × (m ≡ n) × (put ≡ tuple)
IsDeedOf c (messages.Accept n ticket id) (deeds.Take client m taken) =
    (client ≡ c) × (m ≡ n) × (taken ≡ id)
IsDeedOf c (messages.Accept n ticket id) (deeds.Pass client m passed) =
    (client ≡ c) × (m ≡ n) × (passed ≡ id)
IsDeedOf c (messages.Leave n) (deeds.Leave client m) = (client ≡ c) × (m ≡ n)
IsDeedOf c _ _ = ⊥

-- All that is held is in the bag.
abbrev pub HoldsWhatIsThere : State → Soft → Type 0
HoldsWhatIsThere st soft = (id : ℕ) → IsSome (map.get soft.holds id) → IsSome (map.get st.bag id)

-- the deed that the first reply to a client's message reports
abbrev pub deed_behind : ℕ → Message → List (ℕ × Reply) → Option Deed
deed_behind c (messages.Out n tuple) ((to, replies.Stored m id) ∷ sends) =
    Some (deeds.Out c n tuple)
deed_behind c (messages.Accept n ticket id) ((to, replies.Taken m other row) ∷ sends) =
    Some (deeds.Take c n id)
deed_behind c (messages.Accept n ticket id) ((to, replies.Gone m) ∷ sends) =
    Some (deeds.Pass c n id)
deed_behind c (messages.Leave n) ((to, replies.Left m) ∷ sends) = Some (deeds.Leave c n)
deed_behind c _ _ = None

-- whether this is a number, and the one after the last
abbrev pub comes_next : Option ℕ → ℕ → Bool
comes_next None last = false
comes_next (Some n) last = n == last + 1

-- The deed that was done for a client's message, known from the client's last number before it and
-- from what was sent.
abbrev pub reported_deed : ℕ → Message → ℕ → List (ℕ × Reply) → Option Deed
reported_deed c m last sends =
    if comes_next (number_of_message m) last then deed_behind c m sends else None
