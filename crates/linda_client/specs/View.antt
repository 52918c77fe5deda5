-- Views of the fields of a pending synchronization and of a client.
use Rattle.std.specs.Prelude.{◌≡◌}
use Rattle.linda_event.specs.Trees.{tree_of}
use Rattle.linda_client.specs.declared.pending.Pending.TheInside as pending
use Rattle.linda_client.specs.declared.client.Client.TheInside as client
use Rattle.linda_client.specs.Ask.{asks, alarms}
use Rattle.linda_client.specs.Pending.{Pending, IsPending}
use Rattle.linda_client.specs.Client.{Client}

-- the synchronization of these fields
abbrev pub pending_of : pending.Inside → Pending
pending_of p =
    record {
      event = tree_of p.event;
      first = p.first;
      accepted = p.accepted;
      saved = p.saved.items;
    }

-- The lists that are kept beside an event are those of the event, and the synchronization is as
-- each is.
pub record IsWhole (p : pending.Inside) : Type 0 where
  pub asks : p.asks.items ≡ asks (tree_of p.event)
  pub alarms : p.alarms.items ≡ alarms (tree_of p.event)
  pub keeps : IsPending (pending_of p)

-- the client of these fields
abbrev pub client_of : client.Inside → Client
client_of c = record {
  number = c.number;
  clock = c.clock;
  next = c.next.items;
  outs = c.outs;
  ticket = c.ticket;
  task = c.task;
}
