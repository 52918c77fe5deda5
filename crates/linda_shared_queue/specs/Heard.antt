-- State of an account within a batch: what it heard of the messages.
use Rattle.std.specs.Prelude.{◌≡◌, ℕ, ◌+◌, ◌≤◌, Bool, true, false, ◌||◌, if◌then◌else◌}
use Rattle.std.specs.Prelude.{List, length, Option, Some, None, IfSome, IfNone}
use Rattle.linda_wire.specs.declared.message.Message.{Message}
use Rattle.linda_shared_accounts.specs.declared.receipt.Receipt.{Receipt}
use Rattle.linda_shared_accounts.specs.declared.fault.SharedFault.{SharedFault}
use Rattle.linda_shared_accounts.specs.declared.fault.SharedFault.TheVariants as faults
use Rattle.linda_shared_accounts.specs.Account.{Account}
use Rattle.linda_shared_queue.specs.Seat.{with_asked, with_all, AreToldOf}

-- whether the account may have changed if this fault is reported
abbrev pub is_severe : SharedFault → Bool
is_severe faults.Down = true
is_severe faults.Full = false
is_severe faults.SeatMissing = false
is_severe (faults.Receipt client number) = true
is_severe (faults.Stuck client) = false
is_severe faults.NoThread = false
is_severe faults.Memory = false

-- whether it is that of a receipt that was no answer to its message
abbrev pub is_receipt : SharedFault → Bool
is_receipt (faults.Receipt client number) = true
is_receipt _ = false

-- the fault of several messages: the first of a receipt, else the first
abbrev pub worse_fault : Option SharedFault → SharedFault → SharedFault
worse_fault None fault = fault
worse_fault (Some first) fault =
    if is_receipt first then first else if is_receipt fault then fault else first

-- This holds unless the fault is that of a receipt.
abbrev pub UnlessReceipt : Option SharedFault → Type 0 → Type 0
UnlessReceipt None P = P
UnlessReceipt (Some fault) P = is_receipt fault ≡ false → P

-- the fault of a batch: `Down` in place of one that says that nothing changed, if something may
-- have
abbrev pub told_fault : SharedFault → Bool → SharedFault
told_fault fault as_before = if as_before || is_severe fault then fault else faults.Down

-- A fault of one receipt is of a receipt of this client.
abbrev pub IsFaultOf : ℕ → SharedFault → Type 0
IsFaultOf c (faults.Receipt client number) = client ≡ c
IsFaultOf c _ = Unit {0}

-- This was reported to the account of its messages, and each deed is one that its message asks for.
pub record IsToldAll (before : Account) (ms : List Message) (a : Account)
    (told : List (Option Receipt)) : Type 0 where
  pub account : with_asked a 0 ≡ with_all (with_asked before 0) told
  pub deeds : AreToldOf before.client ms told
  pub each : length told ≡ length ms

-- Something was reported to the account of its messages, and each deed is one that its message asks
-- for.
pub record HasNoted (before : Account) (ms : List Message) (a : Account) : Type 0 where
  pub told : List (Option Receipt)
  pub all : IsToldAll before ms a told

-- The account heard the answers to these messages: without a fault so far, or with this one.
pub record HasHeard (before : Account) (ms : List Message) (a : Account)
    (told : List (Option Receipt))
    (fault : Option SharedFault) (as_before : Bool) : Type 0 where
  pub client : a.client ≡ before.client
  pub asked : a.asked + length ms ≡ before.asked
  pub more : before.deeds ≤ a.deeds
  pub few : a.deeds ≤ before.deeds + length ms
  pub each : length told ≡ length ms
  pub told_all : IfNone fault (IsToldAll before ms a told)
  pub its : IfSome fault (IsFaultOf before.client)
  pub noted : UnlessReceipt fault (HasNoted before ms a)
  pub same : as_before ≡ true → with_asked a 0 ≡ with_asked before 0
