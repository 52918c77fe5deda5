-- Troubles that are reported: which there are, which of them comes first, and what a snapshot came
-- to.
use Rattle.std.specs.Prelude.{ℕ, nat_lt, Bool, true, false, Option, Some, None, Result, Ok, Err}
use Rattle.linda_shared_accounts.specs.declared.fault.SharedFault.{SharedFault}
use Rattle.linda_shared_accounts.specs.declared.fault.SharedFault.TheVariants as faults
use Rattle.linda_net_marks.specs.declared.counters.CounterValues.{CounterValues}
use Rattle.linda_net_watch.specs.declared.alerts.Alerts.{Alerts}
use Rattle.linda_net_marks.specs.declared.refusals.RefusalReason.TheVariants as whys
use Rattle.linda_net_marks.specs.declared.notice.Notice.{Notice}
use Rattle.linda_net_marks.specs.declared.notice.Notice.TheVariants as notices

-- no trouble
abbrev pub no_trouble : Alerts
no_trouble = record {
  full = false;
  closed = false;
  missed = false;
  down = false;
  busy = false;
  clients = false;
  greeting = false;
  malformed = false;
}

-- the troubles of which something came since then, and that the server is down
abbrev pub came_since : CounterValues → CounterValues → Bool → Alerts
came_since now before down = record {
  full = nat_lt before.refused now.refused;
  closed = nat_lt before.closed now.closed;
  missed = nat_lt before.missed now.missed;
  down = down;
  busy = nat_lt before.turned.busy now.turned.busy;
  clients = nat_lt before.turned.clients now.turned.clients;
  greeting = nat_lt before.turned.greetings now.turned.greetings;
  malformed = nat_lt before.turned.malformed now.turned.malformed;
}

-- the notice, if its trouble came and was not reported; else the other one
abbrev pub notice_or : Bool → Bool → Notice → Option Notice → Option Notice
notice_or true false notice other = Some notice
notice_or true true notice other = other
notice_or false told notice other = other

-- the first of the troubles of clients that was not reported
abbrev pub first_turned : Alerts → Alerts → Option Notice
first_turned came told =
    notice_or came.busy told.busy (notices.Turned whys.Busy)
    (notice_or came.clients told.clients (notices.Turned whys.Clients)
    (notice_or came.greeting told.greeting (notices.Turned whys.Greeting)
    (notice_or came.malformed told.malformed (notices.Turned whys.Malformed) None)))

-- the first of the troubles that was not reported: those of the server come before those of clients
abbrev pub first_untold : Alerts → Alerts → Option Notice
first_untold came told =
    notice_or came.full told.full notices.Full
    (notice_or came.closed told.closed notices.Closed
    (notice_or came.missed told.missed notices.Missed
    (notice_or came.down told.down notices.Down (first_turned came told))))

-- the troubles that were reported, once this notice is reported too
abbrev pub with_told : Alerts → Notice → Alerts
with_told t notices.Minute = t
with_told t (notices.Snapshot millis) = t
with_told t (notices.NoSnapshot millis) = t
with_told t notices.Full = record t { full = true }
with_told t notices.Closed = record t { closed = true }
with_told t notices.Missed = record t { missed = true }
with_told t (notices.Turned whys.Busy) = record t { busy = true }
with_told t (notices.Turned whys.Clients) = record t { clients = true }
with_told t (notices.Turned whys.Greeting) = record t { greeting = true }
with_told t (notices.Turned whys.Malformed) = record t { malformed = true }
with_told t notices.Unwatched = t
with_told t notices.NoThread = t
with_told t notices.NoStatus = t
with_told t notices.Down = record t { down = true }

-- the troubles that were reported, once this notice is reported too, if there is one
abbrev pub with_first : Alerts → Option Notice → Alerts
with_first t None = t
with_first t (Some notice) = with_told t notice

-- What is reported of a snapshot that took so many milliseconds: nothing if the server is down.
abbrev pub notice_of_snapshot : {A : Type 0} → Result A SharedFault → ℕ → Option Notice
notice_of_snapshot (Ok done) millis = Some (notices.Snapshot millis)
notice_of_snapshot (Err faults.Full) millis = Some (notices.NoSnapshot millis)
notice_of_snapshot (Err faults.Down) millis = None
notice_of_snapshot (Err faults.SeatMissing) millis = None
notice_of_snapshot (Err (faults.Receipt client number)) millis = None
notice_of_snapshot (Err (faults.Stuck client)) millis = None
notice_of_snapshot (Err faults.NoThread) millis = None
notice_of_snapshot (Err faults.Memory) millis = None
