-- A client as contracts see it, and what every client keeps.
use Rattle.std.specs.Prelude.{◌≡◌, ℕ, ◌+◌, ◌<◌, ◌≤◌, ◌==◌, Bool, true, false, ◌&&◌, List, [], ◌∷◌}
use Rattle.std.specs.Prelude.{length}
use Rattle.std.specs.Prelude.{Option, Some, None, All, IfSome, slice_index}
use Rattle.linda_wire.specs.declared.limits.TheConstants.{NUMBER_LIMIT}
use Rattle.linda_client.specs.declared.limits.TheConstants.{MAX_SERVERS}
use Rattle.linda_client.specs.declared.task.Task.{Task}
use Rattle.linda_client.specs.declared.task.Task.TheVariants.{Idle, Putting, Syncing, Leaving, Left}
use Rattle.linda_client.specs.declared.arrived_tuple.PendingAccept.{PendingAccept}
use Rattle.linda_client.specs.declared.arrived_tuple.ArrivedTuple.{ArrivedTuple}
use Rattle.linda_client.specs.declared.ask.Ask.{Ask}
use Rattle.linda_client.specs.Pending.{Pending, IsPending, ask_at, ticket_count}

-- A client: its number, its clock, the next number at each server, the count of its outs, the next
-- ticket, and what is pending.
pub record Client : Type 0 where
  pub number : ℕ
  pub clock : ℕ
  pub next : List ℕ
  pub outs : ℕ
  pub ticket : ℕ
  pub task : Task

-- how many servers the client has
abbrev pub servers : Client → ℕ
servers c = length c.next

-- the number that the next numbered message to a server gets
abbrev pub next_at : Client → ℕ → ℕ
next_at c server = slice_index c.next server

-- whether nothing is pending
abbrev pub is_idle : Task → Bool
is_idle Idle = true
is_idle (Putting server n row) = false
is_idle (Syncing pending) = false
is_idle (Leaving leaves) = false
is_idle Left = true

-- whether the client has left
abbrev pub has_left : Task → Bool
has_left Idle = false
has_left (Putting server n row) = false
has_left (Syncing pending) = false
has_left (Leaving leaves) = false
has_left Left = true

-- whether an out of this number to this server is pending
abbrev pub is_out_of : Task → ℕ → ℕ → Bool
is_out_of Idle server n = false
is_out_of (Putting s m row) server n = (s == server) && (m == n)
is_out_of (Syncing pending) server n = false
is_out_of (Leaving leaves) server n = false
is_out_of Left server n = false

-- the synchronization that is pending, if there is one
abbrev pub pending_in : Task → Option Pending
pending_in Idle = None
pending_in (Putting server n row) = None
pending_in (Syncing pending) = Some pending
pending_in (Leaving leaves) = None
pending_in Left = None

-- the accepted offer that no server has answered yet, if there is one
abbrev pub accepted_in : Task → Option PendingAccept
accepted_in Idle = None
accepted_in (Putting server n row) = None
accepted_in (Syncing pending) = pending.accepted
accepted_in (Leaving leaves) = None
accepted_in Left = None

-- the client with another synchronization pending
abbrev pub with_pending : Client → Pending → Client
with_pending c pending = record c { task = Syncing pending }

-- P holds of the synchronization that is pending, if there is one.
abbrev pub OfPending : Client → (Pending → Type 0) → Type 0
OfPending c P = IfSome (pending_in c.task) P

-- what is asked by a ticket, if it is open
abbrev pub asked_in : Option Pending → ℕ → Option Ask
asked_in None ticket = None
asked_in (Some pending) ticket = ask_at pending ticket

-- The number was used at a server of the client.
abbrev pub IsUsed : Client → ℕ → ℕ → Type 0
IsUsed c server n = (server < servers c) × ((1 ≤ n) × (n < next_at c server))

-- A pending synchronization is one of the client's: its tickets are used, and it is at the client's
-- servers, under a number that was used.
pub record IsPendingOf (c : Client) (pending : Pending) : Type 0 where
  pub keeps : IsPending pending
  pub tickets : pending.first + ticket_count pending ≤ c.ticket
  pub accepted : IfSome pending.accepted (λ a. IsUsed c a.server a.n)
  pub saved : All (λ (a : ArrivedTuple). a.server < servers c) pending.saved

-- The servers rise, from this one on.
abbrev pub AreRising : ℕ → List (ℕ × ℕ) → Type 0
AreRising from [] = Unit {0}
AreRising from (p ∷ ps) = (from ≤ p.0) × AreRising (p.0 + 1) ps

-- The Leaves that are not answered yet, each a server with the number of its Leave: there is one at
-- least, their servers rise, and each has the last number that was used at its server.
pub record AreLeavesOf (c : Client) (leaves : List (ℕ × ℕ)) : Type 0 where
  pub some : 1 ≤ length leaves
  pub rising : AreRising 0 leaves
  pub last : All (λ (p : ℕ × ℕ). IsUsed c p.0 p.1 × (p.1 + 1 ≡ next_at c p.0)) leaves

-- What is pending keeps to the client's servers and to numbers and tickets that were used.
abbrev pub IsTaskOf : Client → Task → Type 0
IsTaskOf c Idle = Unit {0}
IsTaskOf c (Putting server n row) = IsUsed c server n
IsTaskOf c (Syncing pending) = IsPendingOf c pending
IsTaskOf c (Leaving leaves) = AreLeavesOf c leaves
IsTaskOf c Left = Unit {0}

-- What every client keeps.
pub record IsClient (c : Client) : Type 0 where
  pub servers_low : 1 ≤ servers c
  pub servers_high : servers c ≤ MAX_SERVERS
  pub numbers : All (λ n. (1 ≤ n) × (n ≤ NUMBER_LIMIT)) c.next
  pub outs : c.outs < NUMBER_LIMIT
  pub ticket_low : 1 ≤ c.ticket
  pub ticket_high : c.ticket ≤ NUMBER_LIMIT
  pub task : IsTaskOf c c.task
