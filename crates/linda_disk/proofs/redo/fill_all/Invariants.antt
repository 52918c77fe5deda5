-- What is left of the calls leads to the same file as all of them.
use Rattle.std.proofs.Common.{◌≡◌, drop}
use Rattle.linda_disk.specs.DiskHistory.{fill_all}
use Rattle.linda_disk.proofs.redo.fill_all.Given as goal

abbrev pub invariant-loop-call : goal.invariant-loop-call
invariant-loop-call l =
    fill_all l.byte (drop l.call-index l.calls) l.file.items ≡ fill_all l.byte l.calls l.initial.file.items
