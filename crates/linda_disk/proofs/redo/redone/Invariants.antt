-- The calls so far are done.
use Rattle.std.proofs.Common.{◌≡◌, take, reverse}
use Rattle.linda_disk.specs.DiskHistory.{content_from}
use Rattle.linda_disk.proofs.redo.redone.Given as goal

abbrev pub invariant-loop-call : goal.invariant-loop-call
invariant-loop-call l = l.file.items ≡ content_from l.first (reverse (take l.call-index l.calls))
