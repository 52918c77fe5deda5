use Rattle.linda_journal.proofs.FillingLaws.{none_filled}
use Rattle.linda_journal.proofs.filling.Filling.begin.Goals as goal

pub returns-clause-filled : goal.returns-clause-filled
returns-clause-filled g c honest = none_filled (g.D.Disk.view c.into_disk-disk.result)
    (c.into_disk-disk.ensures.closed honest) (c.into_disk-disk.ensures.durable honest)
