-- One write of a gate at the front.
use Rattle.linda_disk.specs.declared.fault.DiskFault.TheVariants.{Device}
use Rattle.linda_disk.specs.Runs.{anything, takes}
use Rattle.linda_disk.proofs.RunsLaws.{runs_by}
use Rattle.linda_journal.specs.Gate.{lays}
use Rattle.linda_journal.proofs.GateLaws.{write_first}
use Rattle.linda_journal.proofs.gate.lay_gate.Goals as goal

pub returns-clause-runs : goal.returns-clause-runs
returns-clause-runs g c =
    let old = g.D.Disk.view c.args.disk.now in
    let new = g.D.Disk.view c.write_synced.new.disk in
    runs_by g.D.Disk anything lays (takes 2) Device c.args.disk.now c.write_synced.result c.write_synced.new.disk c.write_synced.ensures.runs
    (λ h any durable empty. write_first old new empty ((c.write_synced.ensures.writes h).any_moment durable))
