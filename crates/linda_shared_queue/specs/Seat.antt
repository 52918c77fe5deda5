-- Seats after a session's call, of which contracts see the account.
use Rattle.std.specs.Prelude.{◌≡◌, ℕ, ◌+◌, ◌-◌, ◌^◌, ◌≤◌, min, List, [], ◌∷◌, length}
use Rattle.std.specs.Prelude.{Option, Some, None, IfSome}
use Rattle.std.specs.List.{sum_by}
use Rattle.linda_wire.specs.declared.message.Message.{Message}
use Rattle.linda_wire.specs.declared.message.Message.TheVariants as messages
use Rattle.linda_store_step.specs.Reported.{IsDeedOf}
use Rattle.linda_shared_accounts.specs.declared.receipt.Receipt.{Receipt}
use Rattle.linda_shared_accounts.specs.declared.fault.SharedFault.{SharedFault}
use Rattle.linda_shared_accounts.specs.declared.fault.SharedFault.TheVariants as faults
use Rattle.linda_shared_accounts.specs.Account.{Account, account_of}
use Rattle.linda_shared_accounts.specs.Ring.{with_receipt, IsNext}

-- the account with so many messages on their way
abbrev pub with_asked : Account → ℕ → Account
with_asked a asked = account_of a.client a.deeds asked a.ring

-- the account with one message fewer on its way
abbrev pub back : Account → Account
back a = with_asked a (a.asked - 1)

-- the account, after one more deed was reported to it
abbrev pub with_deed : Account → Account
with_deed a = account_of a.client (a.deeds + 1) a.asked a.ring

-- the account, after what a message led to was reported to it: a receipt joins the ring
abbrev pub with_told : Account → Option Receipt → Account
with_told a None = a
with_told a (Some r) = account_of a.client (a.deeds + 1) a.asked (with_receipt a.ring r)

-- the account, after what several messages led to was reported to it, in order
abbrev pub with_all : Account → List (Option Receipt) → Account
with_all a [] = a
with_all a (t ∷ ts) = with_all (with_told a t) ts

-- how many deeds were reported to these accounts, each counted up to 2 ^ 64 - 1
abbrev pub deeds_told : List Account → ℕ
deeds_told accounts = sum_by (λ a. min a.deeds (2 ^ 64 - 1)) accounts

-- It is no Hello.
abbrev pub IsRequest : Message → Type 0
IsRequest (messages.Hello version client fresh) = ⊥
IsRequest (messages.Out n tuple) = Unit {0}
IsRequest (messages.Ask ticket remove template) = Unit {0}
IsRequest (messages.Accept n ticket id) = Unit {0}
IsRequest (messages.Cancel ticket) = Unit {0}
IsRequest (messages.Leave n) = Unit {0}

-- A deed that was reported is one that the client's message asks for.
abbrev pub IsToldOf : ℕ → Message → Option Receipt → Type 0
IsToldOf c m None = Unit {0}
IsToldOf c m (Some r) = IsDeedOf c m r.deed

-- Each deed that was reported is one that the message at its position asks for; there are as many
-- positions.
abbrev pub AreToldOf : ℕ → List Message → List (Option Receipt) → Type 0
AreToldOf c [] [] = Unit {0}
AreToldOf c [] (t ∷ ts) = ⊥
AreToldOf c (m ∷ ms) [] = ⊥
AreToldOf c (m ∷ ms) (t ∷ ts) = IsToldOf c m t × AreToldOf c ms ts

-- An answer was lost, and what it says was reported to the account: nothing, or a deed that the
-- message asks for, whose receipt joined the ring after the others.
pub record IsLost (m : Message) (a new : Account) : Type 0 where
  pub told : Option Receipt
  pub account : new ≡ with_told a told
  pub deed : IsToldOf a.client m told
  pub next : IfSome told (IsNext a.client a.ring)

-- A refused message leaves the account so: it is as before, but for a receipt that was no answer to
-- the message, and for an answer that was lost.
abbrev pub IsLeft : Message → Account → SharedFault → Account → Type 0
IsLeft m a faults.Down new = IsLost m a new
IsLeft m a faults.Full new = new ≡ a
IsLeft m a faults.SeatMissing new = new ≡ a
IsLeft m a (faults.Receipt client number) new = (new ≡ with_deed a) × (client ≡ a.client)
IsLeft m a (faults.Stuck client) new = new ≡ a
IsLeft m a faults.NoThread new = new ≡ a
IsLeft m a faults.Memory new = new ≡ a

-- Answers were lost, and what they say was reported to the account: of each message nothing, or a
-- deed that it asks for, whose receipt joined the ring.
pub record AreLost (ms : List Message) (a new : Account) : Type 0 where
  pub told : List (Option Receipt)
  pub account : new ≡ with_all a told
  pub deeds : AreToldOf a.client ms told

-- At most so many more deeds were reported to it.
pub record IsToldMore (n : ℕ) (a new : Account) : Type 0 where
  pub client : new.client ≡ a.client
  pub asked : new.asked ≡ a.asked
  pub more : a.deeds ≤ new.deeds
  pub few : new.deeds ≤ a.deeds + n

-- Refused messages leave the account so.
abbrev pub IsLeftBy : List Message → Account → SharedFault → Account → Type 0
IsLeftBy ms a faults.Down new = AreLost ms a new
IsLeftBy ms a faults.Full new = new ≡ a
IsLeftBy ms a faults.SeatMissing new = new ≡ a
IsLeftBy ms a (faults.Receipt client number) new =
    IsToldMore (length ms) a new × (client ≡ a.client)
IsLeftBy ms a (faults.Stuck client) new = new ≡ a
IsLeftBy ms a faults.NoThread new = new ≡ a
IsLeftBy ms a faults.Memory new = new ≡ a
