-- One write after what is written.
use Rattle.std.proofs.Common.{length}
use Rattle.linda_disk.specs.declared.fault.DiskFault.TheVariants.{Device}
use Rattle.linda_disk.specs.Runs.{anything, takes}
use Rattle.linda_disk.proofs.RunsLaws.{runs_by, on_both}
use Rattle.linda_journal.specs.Renewal.{fills}
use Rattle.linda_journal.proofs.FillingLaws.{step_run, step_filled}
use Rattle.linda_journal.proofs.filling.fill_more.Goals as goal

pub returns-clause-runs : goal.returns-clause-runs
returns-clause-runs g c =
    let old = g.D.Disk.view c.args.disk.now in
    let new = g.D.Disk.view c.write_synced.new.disk in
    runs_by g.D.Disk anything (fills c.args.at) (takes 2) Device c.args.disk.now c.write_synced.result c.write_synced.new.disk c.write_synced.ensures.runs
    (λ h any front filled. step_run front c.args.at (length c.args.bytes.now) old new filled ((c.write_synced.ensures.writes h).any_moment filled.durable))

pub returns-clause-filled : goal.returns-clause-filled
returns-clause-filled g c front honest filled =
    let writes = c.write_synced.ensures.writes honest in
    on_both _ _ _ c.write_synced.result writes.seen writes.durable
    (step_filled front c.args.at c.args.bytes.now (g.D.Disk.view c.args.disk.now) (g.D.Disk.view c.write_synced.new.disk) filled)
