-- One write of the gate.
use Rattle.std.proofs.Common.{◌∷◌, [], length, ap, arith}
use Rattle.linda_journal.specs.declared.kinds.TheConstants.{OPEN}
use Rattle.linda_store_state.proofs.DoneLaws.{on_ok}
use Rattle.linda_disk.specs.DiskHistoryLaws.{length-overlay}
use Rattle.linda_disk.specs.declared.fault.DiskFault.TheVariants.{Device}
use Rattle.linda_disk.specs.Runs.{anything, takes}
use Rattle.linda_disk.proofs.RunsLaws.{runs_by, on_both}
use Rattle.linda_journal.specs.Gate.{opens}
use Rattle.linda_journal.proofs.GateLaws.{write_open, shut_now}
use Rattle.linda_journal.proofs.gate.open_gate.Goals as goal

pub returns-clause-runs : goal.returns-clause-runs
returns-clause-runs g c =
    let old = g.D.Disk.view c.args.disk.now in
    let new = g.D.Disk.view c.write_synced.new.disk in
    runs_by g.D.Disk anything (opens c.args.gate) (takes 2) Device c.args.disk.now c.write_synced.result c.write_synced.new.disk c.write_synced.ensures.runs
    (λ h any front body ready. write_open front body c.args.gate old new ready ((c.write_synced.ensures.writes h).any_moment ready.durable))

pub returns-clause-opened : goal.returns-clause-opened
returns-clause-opened g c front body honest ready =
    let writes = c.write_synced.ensures.writes honest in
    on_both _ _ _ c.write_synced.result writes.seen writes.durable
    (shut_now front body c.args.gate (g.D.Disk.view c.args.disk.now) (g.D.Disk.view c.write_synced.new.disk) ready)

pub returns-clause-long : goal.returns-clause-long
returns-clause-long g c honest =
    let old = g.D.Disk.view c.args.disk.now in
    let within = c.requires honest in
    on_ok _ _ c.write_synced.result (λ seen. let all = ap length seen in let long =
    length-overlay c.args.gate (OPEN ∷ []) old.seen (omega (arith, within)) in omega (arith, all, long, within)) (c.write_synced.ensures.writes honest).seen
