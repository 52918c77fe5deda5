use Rattle.linda_shared_outbox.specs.Waiting.{waits_for}
use Rattle.linda_shared_listing.proofs.ClientLaws.{AreListed}
use Rattle.linda_shared_listing.proofs.clients.list_clients.Given as goal

-- The rows have the clients before the next one, each by one turn.
abbrev pub invariant-loop : goal.invariant-loop
invariant-loop l = AreListed l.book (waits_for l.boxes) l.holds l.waits l.from l.next l.counter l.rows.items
