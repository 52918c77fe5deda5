-- A synchronization that is pending: its tickets, what it accepted and what it saved.
use Rattle.std.specs.Prelude.{◌≡◌, ℕ, ◌+◌, ◌-◌, ◌≤◌, ◌==◌, nat_lt, Bool, true, false, ◌&&◌}
use Rattle.std.specs.Prelude.{not, if◌then◌else◌, List, [], ◌∷◌, ◌++◌, drop, length, Option, Some}
use Rattle.std.specs.Prelude.{None, All, IfSome, IsSomeAnd, slice_get}
use Rattle.std.specs.List.{list_any}
use Rattle.linda_tuple.specs.Tuple.{Tuple}
use Rattle.linda_tuple.specs.Matching.{Matches, is_match}
use Rattle.linda_wire.specs.declared.limits.TheConstants.{NUMBER_LIMIT}
use Rattle.linda_event.specs.Trees.{Tree}
use Rattle.linda_event.specs.Limits.{IsWithinLimits}
use Rattle.linda_client.specs.declared.arrived_tuple.ArrivedTuple.{ArrivedTuple}
use Rattle.linda_client.specs.declared.arrived_tuple.PendingAccept.{PendingAccept}
use Rattle.linda_client.specs.declared.ask.Ask.{Ask}
use Rattle.linda_client.specs.Ask.{asks}

-- The event, the first ticket, the accepted offer that no server has answered yet, and what arrived
-- since, in order of arrival.
pub record Pending : Type 0 where
  pub event : Tree
  pub first : ℕ
  pub accepted : Option PendingAccept
  pub saved : List ArrivedTuple

-- What is asked by a ticket, if it is open: the k-th input or read base, from 0, has the first
-- ticket plus k.
abbrev pub ask_at : Pending → ℕ → Option Ask
ask_at pending ticket = if nat_lt ticket pending.first then None
    else slice_get (asks pending.event) (ticket - pending.first)

-- How many tickets are open.
abbrev pub ticket_count : Pending → ℕ
ticket_count pending = length (asks pending.event)

-- Whether what a server sends for an ask fits it: an offer for an input, or a copy for a read, of a
-- tuple that the template matches.
abbrev pub is_fit : Ask → Bool → Tuple → Bool
is_fit ask true row = ask.remove && is_match ask.template row
is_fit ask false row = not ask.remove && is_match ask.template row

-- whether two arrivals are the same: of one server, for one ticket, of one id
abbrev pub same_arrival : ArrivedTuple → ArrivedTuple → Bool
same_arrival a b = (a.server == b.server) && ((a.ticket == b.ticket) && (a.id == b.id))

-- whether the arrival is saved already
abbrev pub is_saved : Pending → ArrivedTuple → Bool
is_saved pending arrival = list_any (same_arrival arrival) pending.saved

-- whether the accepted offer, if there is one, was accepted by message n to this server
abbrev pub is_answer : PendingAccept → ℕ → ℕ → Bool
is_answer a server n = (a.server == server) && (a.n == n)

-- The ticket is open, and it is that of an input.
abbrev pub IsOpenInput : Pending → ℕ → Type 0
IsOpenInput pending ticket = IsSomeAnd (ask_at pending ticket) (λ ask. ask.remove ≡ true)

-- The ticket is open, and the template of its base matches the tuple.
abbrev pub FitsOpen : Pending → ArrivedTuple → Type 0
FitsOpen pending arrival =
    IsSomeAnd (ask_at pending arrival.ticket) (λ ask. Matches ask.template arrival.tuple)

-- The oldest arrival that it saved, if it saved some, is saved no more.
abbrev pub drop_oldest : Pending → Pending
drop_oldest pending = record pending { saved = drop 1 pending.saved }

-- An offer is accepted: that oldest one, if it saved some.
abbrev pub take_oldest : PendingAccept → Pending → Pending
take_oldest a pending = record (drop_oldest pending) { accepted = Some a }

-- It saves an arrival, after those that it saved before.
abbrev pub save_last : ArrivedTuple → Pending → Pending
save_last a pending = record pending { saved = pending.saved ++ a ∷ [] }

-- It lets go of the offer that it accepted.
abbrev pub let_go : Pending → Pending
let_go pending = record pending { accepted = None }

-- What every pending synchronization keeps: its event and its tickets are within their limits, what
-- it accepted is of an open input, what it saved fits open tickets, and nothing is saved while no
-- Accept is unanswered.
pub record IsPending (pending : Pending) : Type 0 where
  pub within : IsWithinLimits pending.event
  pub first : 1 ≤ pending.first
  pub last : pending.first + ticket_count pending ≤ NUMBER_LIMIT
  pub accepted : IfSome pending.accepted (λ a. IsOpenInput pending a.ticket)
  pub saved : All (FitsOpen pending) pending.saved
  pub waiting : pending.accepted ≡ None → pending.saved ≡ []
