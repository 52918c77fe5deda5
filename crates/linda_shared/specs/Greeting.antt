-- Greetings and their results, as contracts see them.
use Rattle.std.specs.Prelude.{◌≡◌, ℕ, Result, Ok, Err}
use Rattle.std.specs.Arc.{arc_value}
use Rattle.linda_wire.specs.declared.message.Message.{Message}
use Rattle.linda_wire.specs.declared.message.Message.TheVariants as messages
use Rattle.linda_store_state.specs.State.{State}
use Rattle.linda_shared_accounts.specs.Account.{Account}
use Rattle.linda_shared_accounts.specs.Accounts.{Places}
use Rattle.linda_shared_held.specs.Greeting.{IsGreeted}
use Rattle.linda_shared.specs.declared.greeted.Greeted.{Greeted}
use Rattle.linda_shared.specs.declared.greeted.Greeted.TheVariants.{Welcome, Refused}

-- The seat and the kept number, or the code and detail.
abbrev pub greeting_of : {L : Type 0} → Greeted L → Result (Account × ℕ) (ℕ × ℕ)
greeting_of (Welcome seat outlet last) = Ok (seat, last)
greeting_of (Refused code detail) = Err (code, detail)

-- It is the answer of a server in some state, of which some seats are out or parked.
pub record WasGreeted (message : Message) (answer : Result (Account × ℕ) (ℕ × ℕ)) : Type 0 where
  pub state : State
  pub places : Places
  pub greeted : IsGreeted state places message answer

-- A seat is of the Hello's client, and none of its messages is on its way.
abbrev pub IsSeatOf : Message → Result (Account × ℕ) (ℕ × ℕ) → Type 0
IsSeatOf (messages.Hello version client fresh) (Ok got) =
    (got.0.client ≡ client) × (got.0.asked ≡ 0)
IsSeatOf _ (Ok got) = ⊥
IsSeatOf _ (Err why) = Unit {0}

-- the client of a Hello, and 0 of any other message
abbrev pub client_in : Message → ℕ
client_in (messages.Hello version client fresh) = client
client_in _ = 0

-- An outlet is of the mailbox of the seat's client.
abbrev pub HasOwnOutlet : {L : Type 0} → Greeted L → Type 0
HasOwnOutlet (Welcome seat outlet last) = (arc_value outlet.mailbox).client ≡ seat.client
HasOwnOutlet (Refused code detail) = Unit {0}
