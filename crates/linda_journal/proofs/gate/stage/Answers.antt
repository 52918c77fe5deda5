-- One write after the gate.
use Rattle.std.proofs.Common.{length}
use Rattle.linda_disk.specs.declared.fault.DiskFault.TheVariants.{Device}
use Rattle.linda_disk.specs.Runs.{anything, takes}
use Rattle.linda_disk.proofs.RunsLaws.{runs_by, on_both}
use Rattle.linda_journal.specs.Gate.{stays_shut}
use Rattle.linda_journal.proofs.GateLaws.{write_behind, ready_now}
use Rattle.linda_journal.proofs.gate.stage.Goals as goal

pub returns-clause-runs : goal.returns-clause-runs
returns-clause-runs g c =
    let old = g.D.Disk.view c.args.disk.now in
    let new = g.D.Disk.view c.write_synced.new.disk in
    runs_by g.D.Disk anything (stays_shut c.args.gate) (takes 2) Device c.args.disk.now c.write_synced.result
    c.write_synced.new.disk c.write_synced.ensures.runs
    (λ h any front shut. write_behind front c.args.gate (length c.args.bytes.now) old new shut ((c.write_synced.ensures.writes h).any_moment shut.durable))

pub returns-clause-ready : goal.returns-clause-ready
returns-clause-ready g c front body is honest shut =
    let writes = c.write_synced.ensures.writes honest in
    on_both _ _ _ c.write_synced.result writes.seen writes.durable
    (ready_now front body c.args.gate c.args.bytes.now (g.D.Disk.view c.args.disk.now) (g.D.Disk.view c.write_synced.new.disk) shut is)
