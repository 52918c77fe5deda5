use Rattle.std.proofs.Common.{length}
use Rattle.linda_store_state.specs.DeedFormat.{written}
use Rattle.linda_snap.specs.Snapshot as format
use Rattle.linda_snap.specs.Rising.{entries_from, first_after}
use Rattle.linda_snap.proofs.PuttingLaws.{IsLeft}
use Rattle.linda_snap.proofs.putting.room_after_book.Given as goal

abbrev pub invariant-loop-client : goal.invariant-loop-client
invariant-loop-client l = IsLeft (format.kept written) l.book l.fn.room l.left (first_after l.last)

abbrev pub decreases-loop-client : goal.decreases-loop-client
decreases-loop-client l = length (entries_from (first_after l.last) l.book)
