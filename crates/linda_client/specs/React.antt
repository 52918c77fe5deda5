-- The calls of a client, and what each comes to.
use Rattle.std.specs.Prelude.{◌≡◌, ℕ, ◌+◌, ◌%◌, ◌==◌, nat_lt, max, Bool, true, false, ◌&&◌, ◌||◌}
use Rattle.std.specs.Prelude.{not, if◌then◌else◌, List, [], ◌∷◌, length, Option, Some, None}
use Rattle.std.specs.Prelude.{is_some, Ok, Err, count_by, filter, map, replicate, slice_set}
use Rattle.std.specs.List.{enumerate_from, list_any}
use Rattle.linda_tuple.specs.Tuple.{Tuple}
use Rattle.linda_tuple.specs.Matching.{bindings_of}
use Rattle.linda_wire.specs.declared.limits.TheConstants.{NUMBER_LIMIT}
use Rattle.linda_event.specs.declared.limits.TheConstants.{MAX_BASES, MAX_ASKS}
use Rattle.linda_event.specs.Trees.{Tree}
use Rattle.linda_event.specs.Paths as paths
use Rattle.linda_event.specs.Limits.{is_ask, is_too_deep}
use Rattle.linda_wire.specs.declared.message.Message.TheVariants as messages
use Rattle.linda_wire.specs.declared.reply.Reply.{Reply}
use Rattle.linda_wire.specs.declared.reply.Reply.TheVariants as replies
use Rattle.linda_client.specs.declared.arrived_tuple.PendingAccept.{PendingAccept}
use Rattle.linda_client.specs.declared.arrived_tuple.ArrivedTuple.{ArrivedTuple}
use Rattle.linda_client.specs.declared.ask.Ask.{Ask}
use Rattle.linda_client.specs.declared.ask.Alarm.{Alarm}
use Rattle.linda_client.specs.declared.fault.ClientFault.TheVariants as faults
use Rattle.linda_client.specs.declared.outcome.Got.{Got}
use Rattle.linda_client.specs.declared.outcome.Got.TheVariants as gots
use Rattle.linda_client.specs.declared.outcome.Outcome.TheVariants as outcomes
use Rattle.linda_client.specs.declared.task.Task.{Task}
use Rattle.linda_client.specs.declared.task.Task.TheVariants.{Idle, Putting, Syncing, Leaving, Left}
use Rattle.linda_client.specs.Ask.{asks, first_alarm, first_ready}
use Rattle.linda_client.specs.Pending.{Pending, ask_at, is_answer, is_fit, is_saved, let_go}
use Rattle.linda_client.specs.Pending.{save_last}
use Rattle.linda_client.specs.Client.{Client, IsClient, has_left, is_idle, is_out_of, next_at}
use Rattle.linda_client.specs.Client.{pending_in, servers}
use Rattle.linda_client.specs.Client.{with_pending}
use Rattle.linda_client.specs.Packets.{ask_packets, cancels, leave_packets, sent_again}
use Rattle.linda_client.specs.Reaction.{Answer, Reaction, commit, finish, hand_on, no_reaction}
use Rattle.linda_client.specs.Reaction.{send}

-- A call: a tuple is put, an event is waited for, a reply of a server comes, the time is given,
-- what is unanswered is sent again, to all servers or to one, the synchronization is abandoned, and
-- the client leaves.
pub data Call : Type 0 where
  Out : Tuple → Call
  Sync : Tree → Call
  Receive : ℕ → Reply → Call
  Tick : ℕ → Call
  Resend : Call
  Reconnected : ℕ → Call
  Abandon : Call
  Leave : Call

-- A new client: no out yet, each server's next number and the next ticket are 1, and nothing is
-- pending.
abbrev pub new_client : ℕ → ℕ → Client
new_client number count = record {
  number = number;
  clock = 0;
  next = replicate count 1;
  outs = 0;
  ticket = 1;
  task = Idle;
}

-- the server of the next out
abbrev pub out_server : Client → ℕ
out_server c = (c.number + c.outs) % servers c

-- the next numbers after that of a server is used
abbrev pub used_at : Client → ℕ → List ℕ
used_at c server = slice_set c.next server (next_at c server + 1)

-- the next number of a server is used
abbrev pub use_number : Client → ℕ → Client
use_number c server = record c { next = used_at c server }

-- The tuple is put: it goes to the server of the next out under the next number there.
abbrev pub put : Client → ℕ → Tuple → Reaction
put c server row = send ((server, messages.Out (next_at c server) row) ∷ [])
    (record c {
      next = used_at c server;
      outs = c.outs + 1;
      task = Putting server (next_at c server) row;
    })

abbrev pub on_out : Client → Tuple → Answer
on_out c row =
    if has_left c.task then Err faults.Left
    else (if not (is_idle c.task) then Err faults.Busy
    else (if (next_at c (out_server c) == NUMBER_LIMIT)
    || (c.outs + 1 == NUMBER_LIMIT) then Err faults.Spent
    else Ok (put c (out_server c) row)))

-- a synchronization that has asked and waits
abbrev pub new_pending : Client → Tree → Pending
new_pending c event = record { event = event; first = c.ticket; accepted = None; saved = [] }

-- The synchronization asks the servers; it takes one ticket for each ask.
abbrev pub ask_servers : Client → Tree → Reaction
ask_servers c event = send (ask_packets (servers c) (new_pending c event))
    (record c { ticket = c.ticket + length (asks event); task = Syncing (new_pending c event) })

-- whether no base of the event is ready, and a ticket would reach the limit
abbrev pub lacks_tickets : Client → Tree → Bool
lacks_tickets c event = nat_lt NUMBER_LIMIT (c.ticket + length (asks event)) && not
    (is_some (first_ready c.clock event))

-- an event within its limits, given the base that is ready at once: it commits to that, or asks
abbrev pub on_ready : Client → Tree → Option (ℕ × Got) → Answer
on_ready c event (Some ready) = Ok (commit c event [] ready.0 ready.1)
on_ready c event None =
    (if nat_lt NUMBER_LIMIT (c.ticket + length (asks event)) then Err faults.Spent
    else Ok (ask_servers c event))

-- whether an event has too many bases, or too many inputs and reads among them
abbrev pub has_too_many : Tree → Bool
has_too_many event =
    nat_lt MAX_BASES (length (paths.bases_of event))
    || nat_lt MAX_ASKS (count_by is_ask (paths.bases_of event))

abbrev pub on_sync : Client → Tree → Answer
on_sync c event =
    if has_left c.task then Err faults.Left
    else (if not (is_idle c.task) then Err faults.Busy
    else (if is_too_deep event then Err faults.TooDeep
    else (if has_too_many event then Err faults.TooManyBases
    else on_ready c event (first_ready c.clock event))))

-- a tuple is stored: the end of the pending out, if it has this server and number
abbrev pub on_stored : Client → ℕ → ℕ → ℕ → Reaction
on_stored c server n id =
    (if is_out_of c.task server n then finish c [] (outcomes.Stored server id) else no_reaction c)

-- what is accepted by the next message to this server, for a ticket and an id
abbrev pub next_accept : Client → ℕ → ℕ → ℕ → PendingAccept
next_accept c server ticket id =
    record { server = server; n = next_at c server; ticket = ticket; id = id }

-- an offer of a server is accepted, for a ticket and an id, with the next number of that server
abbrev pub accept : Client → Pending → ℕ → ℕ → ℕ → Answer
accept c pending server ticket id =
    if next_at c server == NUMBER_LIMIT then Err faults.Spent
    else Ok (send ((server, messages.Accept (next_at c server) ticket id) ∷ [])
    (with_pending (use_number c server)
    (record pending { accepted = Some (next_accept c server ticket id) })))

-- what a base gets by a copy
abbrev pub got_by_read : Ask → ArrivedTuple → Got
got_by_read ask a = gots.Copied a.server a.id a.tuple (bindings_of ask.template a.tuple)

-- what a base gets by an input
abbrev pub got_by_input : Ask → ℕ → ℕ → Tuple → Got
got_by_input ask server id row = gots.Took server id row (bindings_of ask.template row)

-- an arrival that fits its ask, while no Accept is unanswered: an offer is accepted, and a copy
-- commits to its base
abbrev pub take_up : Client → Pending → ArrivedTuple → Ask → Answer
take_up c pending a ask =
    if ask.remove then accept c pending a.server a.ticket a.id
    else Ok (commit c pending.event (cancels (servers c) pending) ask.base (got_by_read ask a))

-- an arrival is saved, unless it is saved already
abbrev pub save : Client → Pending → ArrivedTuple → Reaction
save c pending a =
    no_reaction (if is_saved pending a then c else with_pending c (save_last a pending))

-- an offer for a ticket that is not open is cancelled; a copy for one is ignored
abbrev pub on_stray : Client → Bool → ArrivedTuple → Reaction
on_stray c true a = send ((a.server, messages.Cancel a.ticket) ∷ []) c
on_stray c false a = no_reaction c

-- an offer, or a copy, given what its ticket asked: what does not fit is ignored, and what fits is
-- saved while an Accept is unanswered
abbrev pub on_arrival_for : Client → Pending → Bool → ArrivedTuple → Option Ask → Answer
on_arrival_for c pending remove a None = Ok (on_stray c remove a)
on_arrival_for c pending remove a (Some ask) =
    if not (is_fit ask remove a.tuple) then Ok (no_reaction c)
    else (if is_some pending.accepted then Ok (save c pending a)
    else take_up c pending a ask)

-- an offer (true) or a copy (false) has arrived, given the synchronization that is pending
abbrev pub on_arrival : Client → Option Pending → Bool → ArrivedTuple → Answer
on_arrival c None remove a = Ok (on_stray c remove a)
on_arrival c (Some pending) remove a = on_arrival_for c pending remove a (ask_at pending a.ticket)

-- what the offer that is taken was asked by, if it is that of the unanswered Accept: the same
-- server, number and id
abbrev pub ask_of_taken : Pending → Option PendingAccept → ℕ → ℕ → ℕ → Option Ask
ask_of_taken pending None server n id = None
ask_of_taken pending (Some a) server n id =
    (if is_answer a server n && (a.id == id) then ask_at pending a.ticket else None)

-- a tuple was taken, given what it was asked by: it commits if it fits
abbrev pub on_taken_for : Client → Pending → ℕ → ℕ → Tuple → Option Ask → Reaction
on_taken_for c pending server id row None = no_reaction c
on_taken_for c pending server id row (Some ask) =
    if is_fit ask true row
    then commit c pending.event (cancels (servers c) pending) ask.base
    (got_by_input ask server id row)
    else no_reaction c

-- a tuple was taken, given the synchronization that is pending
abbrev pub on_taken : Client → Option Pending → ℕ → ℕ → ℕ → Tuple → Reaction
on_taken c None server n id row = no_reaction c
on_taken c (Some pending) server n id row = on_taken_for c pending server id row
    (ask_of_taken pending pending.accepted server n id)

-- an alarm commits to its base, if one is ready; else the synchronization waits
abbrev pub on_alarm : Client → Pending → Option Alarm → Reaction
on_alarm c pending (Some alarm) =
    commit c pending.event (cancels (servers c) pending) alarm.base gots.Alarm
on_alarm c pending None = no_reaction (with_pending c pending)

-- an arrival that was saved, given what its ticket asked
abbrev pub on_saved : Client → Pending → ArrivedTuple → Option Ask → Answer
on_saved c pending a None = Ok (no_reaction (with_pending c pending))
on_saved c pending a (Some ask) = take_up c pending a ask

-- A synchronization goes on without the offer that it accepted: with the oldest arrival that it
-- saved, which is saved no more; else with the first alarm that is ready; else it waits.
abbrev pub go_on : Client → Pending → List ArrivedTuple → Answer
go_on c pending [] = Ok (on_alarm c (let_go pending) (first_alarm c.clock pending.event))
go_on c pending (a ∷ rest) =
    on_saved c (record pending { accepted = None; saved = rest }) a (ask_at pending a.ticket)

-- whether a synchronization awaits the answer to its Accept of this server and number
abbrev pub awaits : Option PendingAccept → ℕ → ℕ → Bool
awaits None server n = false
awaits (Some a) server n = is_answer a server n

-- an offer is gone, given the synchronization that is pending: that concerns the unanswered Accept
-- of this server and number
abbrev pub on_gone : Client → Option Pending → ℕ → ℕ → Answer
on_gone c None server n = Ok (no_reaction c)
on_gone c (Some pending) server n =
    (if awaits pending.accepted server n then go_on c pending pending.saved else Ok (no_reaction c))

-- the client leaves: a Leave goes to each server, under its next number, which is used
abbrev pub leave : Client → Reaction
leave c = send (leave_packets (enumerate_from 0 c.next))
    (record c { next = map (λ n. n + 1) c.next; task = Leaving (enumerate_from 0 c.next) })

abbrev pub on_leave : Client → Answer
on_leave c =
    if has_left c.task then Err faults.Left
    else (if not (is_idle c.task) then Err faults.Busy
    else (if list_any (λ n. n == NUMBER_LIMIT) c.next then Err faults.Spent else Ok (leave c)))

-- the Leaves that are not answered yet once this server has answered the one of this number
abbrev pub unanswered_leaves : ℕ → ℕ → List (ℕ × ℕ) → List (ℕ × ℕ)
unanswered_leaves server n leaves = filter (λ p. not ((p.0 == server) && (p.1 == n))) leaves

-- with these Leaves not answered yet, the client goes on leaving; with none it has left
abbrev pub leave_on : Client → List (ℕ × ℕ) → Reaction
leave_on c [] = record {
  packets = [];
  outcome = Some outcomes.Left;
  fault = None;
  client = record c { task = Left };
}
leave_on c (p ∷ ps) = no_reaction (record c { task = Leaving (p ∷ ps) })

-- a server has answered a Leave of this number, given what is pending
abbrev pub on_left : Client → Task → ℕ → ℕ → Reaction
on_left c Idle server n = no_reaction c
on_left c (Putting s m row) server n = no_reaction c
on_left c (Syncing pending) server n = no_reaction c
on_left c (Leaving leaves) server n = leave_on c (unanswered_leaves server n leaves)
on_left c Left server n = no_reaction c

-- what a reply of one of the servers comes to
abbrev pub on_reply : Client → ℕ → Reply → Answer
on_reply c server (replies.Welcome last) = Ok (no_reaction c)
on_reply c server (replies.Stored n id) = Ok (on_stored c server n id)
on_reply c server (replies.Offer ticket id row) = on_arrival c (pending_in c.task) true
    (record { server = server; ticket = ticket; id = id; tuple = row })
on_reply c server (replies.Read ticket id row) = on_arrival c (pending_in c.task) false
    (record { server = server; ticket = ticket; id = id; tuple = row })
on_reply c server (replies.Taken n id row) = Ok (on_taken c (pending_in c.task) server n id row)
on_reply c server (replies.Gone n) = on_gone c (pending_in c.task) server n
on_reply c server (replies.Refused code detail) = Ok (hand_on c server code detail)
on_reply c server (replies.Left n) = Ok (on_left c c.task server n)

-- a synchronization at a tick: while no Accept is unanswered the first alarm that is ready commits
abbrev pub on_time : Client → Option Pending → Reaction
on_time c None = no_reaction c
on_time c (Some pending) =
    (if is_some pending.accepted then no_reaction c
    else on_alarm c pending (first_alarm c.clock pending.event))

-- a synchronization is abandoned: all its tickets are cancelled at all servers, and all its nack
-- numbers are raised
abbrev pub on_abandon : Client → Option Pending → Answer
on_abandon c None = Err faults.Idle
on_abandon c (Some pending) =
    (if is_some pending.accepted then Err faults.Busy
    else Ok (finish c (cancels (servers c) pending)
    (outcomes.Dropped (paths.all_nacks pending.event))))

-- What a call of a client comes to, or why it is refused. The clock never falls.
abbrev pub react : Client → Call → Answer
react c (Out row) = on_out c row
react c (Sync event) = on_sync c event
react c (Receive server reply) =
    (if nat_lt server (servers c) then on_reply c server reply else Err faults.NoServer)
react c (Tick now) = Ok (on_time (record c { clock = max c.clock now }) (pending_in c.task))
react c Resend = Ok (send (sent_again c) c)
react c (Reconnected server) =
    (if nat_lt server (servers c) then Ok (send (filter (λ p. p.0 == server) (sent_again c)) c)
    else Err faults.NoServer)
react c Abandon = (if has_left c.task then Err faults.Left else on_abandon c (pending_in c.task))
react c Leave = on_leave c

-- P holds at each call of a client that is answered.
abbrev pub AtEachCall : (Client → Call → Reaction → Type 0) → Type 0
AtEachCall P =
    (c : Client) (call : Call) (r : Reaction) → IsClient c → react c call ≡ Ok r → P c call r
