-- Packets that a client sends for the tickets of a synchronization, and those that it sends again.
use Rattle.std.specs.Prelude.{ℕ, ◌==◌, Bool, false, ◌&&◌, not, if◌then◌else◌, List, [], ◌∷◌, ◌++◌}
use Rattle.std.specs.Prelude.{Option, Some, None, map, filter, flat_map, option_to_list}
use Rattle.std.specs.List.{enumerate_from, list_any, range_with_len}
use Rattle.linda_wire.specs.declared.message.Message.{Message}
use Rattle.linda_wire.specs.declared.message.Message.TheVariants as messages
use Rattle.linda_client.specs.declared.arrived_tuple.PendingAccept.{PendingAccept}
use Rattle.linda_client.specs.declared.arrived_tuple.ArrivedTuple.{ArrivedTuple}
use Rattle.linda_client.specs.declared.ask.Ask.{Ask}
use Rattle.linda_client.specs.declared.task.Task.{Task}
use Rattle.linda_client.specs.declared.task.Task.TheVariants.{Idle, Putting, Syncing, Leaving, Left}
use Rattle.linda_client.specs.Ask.{asks}
use Rattle.linda_client.specs.Pending.{Pending, ticket_count}
use Rattle.linda_client.specs.Client.{Client, pending_in, servers}

-- A message, and the server that it goes to.
abbrev pub Packet : Type 0
Packet = ℕ × Message

-- the servers, rising
abbrev pub all_servers : ℕ → List ℕ
all_servers count = range_with_len 0 count

-- the tickets of a synchronization, rising
abbrev pub tickets : Pending → List ℕ
tickets pending = range_with_len pending.first (ticket_count pending)

-- an ask with its ticket, to each server
abbrev pub asks_to_all : ℕ → ℕ × Ask → List Packet
asks_to_all count ask =
    map (λ s. (s, messages.Ask ask.0 ask.1.remove ask.1.template)) (all_servers count)

-- The Asks of a synchronization: by rising ticket, then rising server.
abbrev pub ask_packets : ℕ → Pending → List Packet
ask_packets count pending =
    flat_map (asks_to_all count) (enumerate_from pending.first (asks pending.event))

-- whether an arrival is of this server and ticket
abbrev pub is_of : ℕ × ℕ → ArrivedTuple → Bool
is_of pair a = (a.server == pair.0) && (a.ticket == pair.1)

-- the server and the ticket of the accepted offer, if there is one, unless an offer of them is
-- saved
abbrev pub spared_by : Option PendingAccept → List ArrivedTuple → Option (ℕ × ℕ)
spared_by None saved = None
spared_by (Some a) saved =
    (if list_any (is_of (a.server, a.ticket)) saved then None else Some (a.server, a.ticket))

-- What is not cancelled when a synchronization ends: a server and a ticket, if any.
abbrev pub spared : Pending → Option (ℕ × ℕ)
spared pending = spared_by pending.accepted pending.saved

-- whether a server and a ticket are those that are spared
abbrev pub is_spared : Option (ℕ × ℕ) → ℕ × ℕ → Bool
is_spared None pair = false
is_spared (Some own) pair = (own.0 == pair.0) && (own.1 == pair.1)

-- a Cancel of the ticket to each server if it is not spared
abbrev pub cancels_of : ℕ → Option (ℕ × ℕ) → ℕ → List Packet
cancels_of count own ticket = map (λ s. (s, messages.Cancel ticket))
    (filter (λ s. not (is_spared own (s, ticket))) (all_servers count))

-- the Cancels of all tickets of a synchronization, unless they are spared: by rising ticket, then
-- rising server
abbrev pub cancels_but : ℕ → Option (ℕ × ℕ) → Pending → List Packet
cancels_but count own pending = flat_map (cancels_of count own) (tickets pending)

-- The Cancels at the end of a synchronization.
abbrev pub cancels : ℕ → Pending → List Packet
cancels count pending = cancels_but count (spared pending) pending

-- the Accept that is not answered yet, if there is one
abbrev pub accept_packet : Option PendingAccept → Option Packet
accept_packet None = None
accept_packet (Some a) = Some (a.server, messages.Accept a.n a.ticket a.id)

-- the Leaves to these servers, each with its number
abbrev pub leave_packets : List (ℕ × ℕ) → List Packet
leave_packets leaves = map (λ p. (p.0, messages.Leave p.1)) leaves

-- The numbered messages that no server has answered yet: an Out, an Accept, or the Leaves; or none.
abbrev pub unanswered : Task → List Packet
unanswered Idle = []
unanswered (Putting server n row) = (server, messages.Out n row) ∷ []
unanswered (Syncing pending) = option_to_list (accept_packet pending.accepted)
unanswered (Leaving leaves) = leave_packets leaves
unanswered Left = []

-- What a synchronization sends again: its unanswered Accept, and its Asks.
abbrev pub sent_for : ℕ → Pending → List Packet
sent_for count pending =
    option_to_list (accept_packet pending.accepted) ++ ask_packets count pending

-- the Asks of all open tickets
abbrev pub open_asks : Client → Option Pending → List Packet
open_asks c None = []
open_asks c (Some pending) = ask_packets (servers c) pending

-- What is not answered yet: the numbered messages, then the Asks.
abbrev pub sent_again : Client → List Packet
sent_again c = unanswered c.task ++ open_asks c (pending_in c.task)
