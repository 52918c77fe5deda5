-- Counts of replies and connections.
use Rattle.std.specs.Prelude.{ℕ, ◌-◌, ◌==◌, if◌then◌else◌, Option, Some, None}
use Rattle.linda_wire.specs.declared.reply.Reply.{Reply}
use Rattle.linda_wire.specs.declared.reply.Reply.TheVariants as replies
use Rattle.linda_wire.specs.Refusal.{code_of}
use Rattle.linda_wire.specs.declared.refusal.Refusal.TheVariants as refusals
use Rattle.linda_net_marks.specs.declared.counters.CounterValues.{CounterValues}
use Rattle.linda_net_marks.specs.declared.refusals.RefusalValues.{RefusalValues}
use Rattle.linda_net_marks.specs.declared.refusals.RefusalReason.{RefusalReason}
use Rattle.linda_net_marks.specs.declared.refusals.RefusalReason.TheVariants as whys

-- Why a refusal of this code is sent, if that is for an operator to know.
abbrev pub why_of_code : ℕ → Option RefusalReason
why_of_code code =
    if code == code_of refusals.Busy then Some whys.Busy
    else (if code == code_of refusals.TooManyClients then Some whys.Clients
    else (if code == code_of (refusals.Malformed 0) then Some whys.Malformed
    else (if code == code_of refusals.Version then Some whys.Greeting
    else (if code == code_of (refusals.Known 0) then Some whys.Greeting
    else (if code == code_of refusals.NoHello then Some whys.Greeting
    else None)))))

-- Why the reply refuses its client, if that is for an operator to know.
abbrev pub why_of : Reply → Option RefusalReason
why_of (replies.Welcome last) = None
why_of (replies.Stored n id) = None
why_of (replies.Offer ticket id tuple) = None
why_of (replies.Read ticket id tuple) = None
why_of (replies.Taken n id tuple) = None
why_of (replies.Gone n) = None
why_of (replies.Refused code detail) = why_of_code code
why_of (replies.Left n) = None

-- How many more there are of each than before.
abbrev pub more_than : RefusalValues → RefusalValues → RefusalValues
more_than now before = record {
  busy = now.busy - before.busy;
  clients = now.clients - before.clients;
  greetings = now.greetings - before.greetings;
  malformed = now.malformed - before.malformed;
}

-- Nobody was refused.
abbrev pub none_refused : RefusalValues
none_refused = record { busy = 0; clients = 0; greetings = 0; malformed = 0 }

-- One connection fewer, if they are counted.
abbrev pub one_less : Option ℕ → Option ℕ
one_less None = None
one_less (Some left) = Some (left - 1)

-- Nothing happened yet.
abbrev pub no_tally : CounterValues
no_tally = record {
  came = 0;
  over = 0;
  refused = 0;
  closed = 0;
  missed = 0;
  turned = none_refused;
  late = 0;
  groups = 0;
  messages = 0;
  took = 0;
}
