use Rattle.std.proofs.Common.{length}
use Rattle.linda_store_state.specs.DeedFormat.{written}
use Rattle.linda_snap.specs.Snapshot as format
use Rattle.linda_snap.specs.Rising.{entries_from}
use Rattle.linda_snap.proofs.PuttingLaws.{IsPutTo}
use Rattle.linda_snap.proofs.putting.push_tuples.Given as goal

abbrev pub invariant-loop-id : goal.invariant-loop-id
invariant-loop-id g l = IsPutTo (format.placed written) l.state.bag l.fn.out.items l.out.items l.from

abbrev pub decreases-loop-id : goal.decreases-loop-id
decreases-loop-id g l = length (entries_from l.from l.state.bag)
