use Rattle.linda_snap.specs.Snapshot as format
use Rattle.linda_snap.specs.Reading.{IsNumbered}
use Rattle.linda_snap.proofs.ReadingLaws.{IsReadSo}
use Rattle.linda_snap.proofs.reading.read_clients.Given as goal

-- The entries of the book were read.
abbrev pub invariant-loop : goal.invariant-loop
invariant-loop l = IsReadSo (format.kept l.form) IsNumbered l.bytes l.book l.low l.counter l.rest
