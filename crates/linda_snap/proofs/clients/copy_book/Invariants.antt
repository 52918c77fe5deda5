use Rattle.std.proofs.Common.{length}
use Rattle.linda_snap.specs.Rising.{entries_from, first_after}
use Rattle.linda_snap.proofs.ClientsLaws.{IsCopiedTo}
use Rattle.linda_snap.proofs.clients.copy_book.Given as goal

abbrev pub invariant-loop-client : goal.invariant-loop-client
invariant-loop-client l = IsCopiedTo l.book l.copy (first_after l.last)

abbrev pub decreases-loop-client : goal.decreases-loop-client
decreases-loop-client l = length (entries_from (first_after l.last) l.book)
