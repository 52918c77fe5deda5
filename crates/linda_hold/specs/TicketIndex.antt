-- Named requests, which have a number: found by their client and, there, by their ticket.
use Rattle.std.specs.Prelude.{◌≡◌, ◌≢◌, ℕ, Option, None, Some, length}
use Rattle.std.specs.Ordering.{nat_cmp}
use Rattle.std.specs.BTreeMap as tree
use Rattle.std.specs.BTreeMap.{BTreeMap}
use Rattle.std.specs.BTreeSet as sets
use Rattle.std.specs.BTreeSet.{BTreeSet}
use Rattle.linda_bag.specs.Filing.{Rows, HasIds, rows_at}
use Rattle.linda_hold.specs.declared.request.Request.{Request}
use Rattle.linda_hold.specs.declared.ticket_index.TicketIndex.{TicketIndex}

-- The request under each number.
abbrev pub Requests : Type 0
Requests = Rows Request

-- Each request is under one number, and the look-up by the request gives it.
pub record IsNumbered (by_request : Request → Option ℕ) (requests : Requests) : Type 0 where
  pub there : (k : ℕ) (request : Request) → requests k ≡ Some request → by_request request ≡ Some k
  pub back : (request : Request) (k : ℕ) → by_request request ≡ Some k → requests k ≡ Some request

-- The numbers of a client's requests, by their tickets; and those of each client.
abbrev pub Tickets : Type 0
Tickets = BTreeMap ℕ ℕ

abbrev pub Clients : Type 0
Clients = BTreeMap ℕ Tickets

-- the number of the ticket
abbrev pub number_in : Option Tickets → ℕ → Option ℕ
number_in None ticket = None
number_in (Some tickets) ticket = tree.get nat_cmp tickets ticket

-- the number of the request
abbrev pub number_at : Clients → Request → Option ℕ
number_at clients request = number_in (tree.get nat_cmp clients request.client) request.ticket

-- No client is there without a ticket.
abbrev pub AreUsed : Clients → Type 0
AreUsed clients =
    (client : ℕ) (tickets : Tickets)
    → tree.get nat_cmp clients client ≡ Some tickets → tree.btree_map_len tickets ≡ 0 → ⊥

-- The names are those of the requests.
abbrev pub HasNames : TicketIndex → Requests → Type 0
HasNames ticket_index requests = IsNumbered (number_at ticket_index.by_client) requests
    × AreUsed ticket_index.by_client

-- what a request is filed under: its client
abbrev pub client_of : Request → Option ℕ
client_of request = Some request.client

-- So many requests of the client there are: as many as a set of their numbers has.
abbrev pub IsCount : ℕ → Requests → ℕ → Type 0
IsCount client requests count =
    (numbers : BTreeSet ℕ)
    → sets.IsOrdered nat_cmp numbers
    → HasIds numbers (rows_at nat_cmp client_of client requests)
    → count ≡ length numbers.keys

-- The new function has w at k, and is the old one elsewhere.
pub record Sets {K A : Type 0} (old new : K → A) (k : K) (w : A) : Type 0 where
  pub here : new k ≡ w
  pub apart : (q : K) → k ≢ q → new q ≡ old q
