-- The body is written, and then the gate opens.
use Rattle.std.proofs.Common.{inl, arith}
use Rattle.std.proofs.lemmas.Result.{err_from_is_err_and}
use Rattle.linda_store_state.proofs.DoneLaws.{on_ok}
use Rattle.linda_disk.specs.declared.fault.DiskFault.TheVariants.{Device}
use Rattle.linda_disk.specs.Runs.{takes}
use Rattle.linda_disk.proofs.RunLaws.{weaker}
use Rattle.linda_disk.proofs.RunsLaws.{broken_by, runs_on}
use Rattle.linda_journal.specs.Gate.{ClosesAfter, IsClosedOrOpened, opens, puts}
use Rattle.linda_journal.proofs.GateLaws.{putting}
use Rattle.linda_journal.proofs.gate.put.Goals as goal

pub returns-in_err-stage-clause-runs : goal.returns-in_err-stage-clause-runs
returns-in_err-stage-clause-runs g c =
    let p = err_from_is_err_and c.from_residual.result c.from_residual.ensures.1 in
    let fault = c.in_err-stage.field-0.0 in
    rw (p.1, p.2)
    (broken_by g.D.Disk Device fault Device fault c.args.disk.now c.stage.new.disk c.in_err-stage.ensures.runs ((λ is. is), (λ is. is))
    (λ honest stays front body is shut. weaker (g.D.Disk.view c.args.disk.now) (g.D.Disk.view c.stage.new.disk)
    (ClosesAfter front) (IsClosedOrOpened front body) (stays front shut) (λ image closes. inl closes)))

pub returns-clause-runs : goal.returns-clause-runs
returns-clause-runs g c =
    let view = g.D.Disk.view in
    runs_on g.D.Disk (opens c.args.gate) (puts c.args.gate c.args.bytes.now) (takes 2) (takes 4) Device c.args.disk.now
    c.stage.new.disk c.open_gate.result c.open_gate.new.disk c.in_ok-stage.ensures.runs c.open_gate.ensures.runs
    (λ honest still stays opens front body is shut. putting front body (view c.args.disk.now) (view c.stage.new.disk)
    (view c.open_gate.new.disk) (stays front shut) (opens front body (c.in_ok-stage.ensures.ready front body is honest shut)))
    (λ honest two two_more. omega (arith, two, two_more))

pub returns-clause-done : goal.returns-clause-done
returns-clause-done g c front body is honest shut =
    c.open_gate.ensures.opened front body (c.in_ok-stage.ensures.runs.honest.0 honest) (c.in_ok-stage.ensures.ready front body is honest shut)

pub returns-clause-long : goal.returns-clause-long
returns-clause-long g c honest =
    let long = c.in_ok-stage.ensures.long honest in
    on_ok _ _ c.open_gate.result (λ same. omega (arith, long, same)) (c.open_gate.ensures.long (c.in_ok-stage.ensures.runs.honest.0 honest))
