-- What the disk holds now is what this crash leaves.
use Rattle.std.proofs.Common.{sym, subst}
use Rattle.linda_disk.specs.DiskHistory.{DiskHistory, Leaves, content}
use Rattle.linda_disk.specs.DiskHistoryLaws.{left_torn}
use Rattle.linda_disk.proofs.mem_disk.MemDisk.crash.Goals as goal

pub returns-clause-left : goal.returns-clause-left
returns-clause-left c =
    let old = c.args.self.now in
    let left = left_torn c.args.torn old.history old.begun in
    subst (λ (h : DiskHistory). Leaves old.history.first old.history.calls (content h)) (sym c.in_ok-self.ensures) left
