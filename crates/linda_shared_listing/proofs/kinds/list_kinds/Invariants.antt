use Rattle.linda_shared_listing.specs.Kinds.{head_in}
use Rattle.linda_shared_listing.proofs.KindLaws.{AreKindsTo}
use Rattle.linda_shared_listing.proofs.kinds.list_kinds.Given as goal

-- The rows have the kinds up to the last one, each by one turn.
abbrev pub invariant-loop : goal.invariant-loop
invariant-loop l = AreKindsTo l.bag (head_in l.after) (head_in l.last) l.counter l.rows.items
