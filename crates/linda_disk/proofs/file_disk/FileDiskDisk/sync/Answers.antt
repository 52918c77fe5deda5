-- The sync is on record.
use Rattle.std.proofs.Common.{Ok, sym, subst}
use Rattle.linda_disk.specs.Disk.{Syncs}
use Rattle.linda_disk.specs.DiskHistory.{DiskHistory, view_of}
use Rattle.linda_disk.specs.FileDisk as disk
use Rattle.linda_disk.proofs.MemDiskLaws.{synced}
use Rattle.linda_disk.proofs.file_disk.FileDiskDisk.sync.Goals as goal

pub returns-in-Ok-clause-syncs : goal.returns-in-Ok-clause-syncs
returns-in-Ok-clause-syncs c =
    let old = c.args.self.now in
    let done = synced (disk.history old) old.known.begun in
    subst (λ (h : DiskHistory). Syncs {T = Unit {0}} (Ok tt) (disk.view old) (view_of h)) (sym c.sync.ensures) done
