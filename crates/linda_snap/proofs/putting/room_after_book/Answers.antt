use Rattle.std.proofs.Common.{arith}
use Rattle.linda_store_state.specs.DeedFormat.{written}
use Rattle.linda_snap.specs.Snapshot as format
use Rattle.linda_snap.proofs.PuttingLaws.{none_counted}
use Rattle.linda_snap.proofs.putting.room_after_book.Goals as goal

pub loop-client-init : goal.loop-client-init
loop-client-init c = none_counted (format.kept written) c.args.book.now c.args.room c.in_ok-left.left (grind (arith, c.in_ok-left.ensures))
