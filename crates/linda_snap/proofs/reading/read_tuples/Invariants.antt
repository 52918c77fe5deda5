use Rattle.linda_snap.specs.Snapshot as format
use Rattle.linda_snap.specs.Reading.{IsPlacedBelow}
use Rattle.linda_snap.proofs.ReadingLaws.{IsReadSo}
use Rattle.linda_snap.proofs.reading.read_tuples.Given as goal

-- The entries of the bag were read.
abbrev pub invariant-loop : goal.invariant-loop
invariant-loop g l = IsReadSo (format.placed l.form) (IsPlacedBelow l.next) l.bytes (g.B.Bag.contents l.bag) l.low l.counter l.rest
