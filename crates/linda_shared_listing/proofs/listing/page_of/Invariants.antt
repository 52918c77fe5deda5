use Rattle.linda_shared_listing.proofs.ListingLaws.{AreListed}
use Rattle.linda_shared_listing.proofs.listing.page_of.Given as goal

-- The rows have the tuples before the next one, each by one turn.
abbrev pub invariant-loop : goal.invariant-loop
invariant-loop l = AreListed l.bag l.holds l.query.tag l.query.from l.next l.counter l.rows.items
