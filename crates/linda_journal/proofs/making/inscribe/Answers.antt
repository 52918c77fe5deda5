-- The gate is laid, and then the body is put after it.
use Rattle.std.proofs.Common.{[], arith}
use Rattle.std.proofs.lemmas.Result.{err_from_is_err_and}
use Rattle.linda_disk.specs.declared.fault.DiskFault.TheVariants.{Device}
use Rattle.linda_disk.proofs.RunsLaws.{broken_by, done_on, broken_on}
use Rattle.linda_journal.specs.declared.fault.BankFault.TheVariants as banks
use Rattle.linda_journal.specs.Faults.{fault_of_disk}
use Rattle.linda_journal.specs.Gate.{inscribes}
use Rattle.linda_journal.proofs.GateLaws.{laid_first, laid_put}
use Rattle.linda_journal.proofs.CauseLaws.{disk_failed}
use Rattle.linda_journal.proofs.making.inscribe.Goals as goal

pub returns-in_err-lay_gate-clause-runs : goal.returns-in_err-lay_gate-clause-runs
returns-in_err-lay_gate-clause-runs g c =
    let p = err_from_is_err_and c.from_residual.result c.from_residual.ensures.1 in
    let fault = c.in_err-lay_gate.field-0.0 in
    rw (p.1, p.2)
    (broken_by g.D.Disk Device fault banks.Disk (fault_of_disk fault) c.args.disk.now c.lay_gate.new.disk c.in_err-lay_gate.ensures.runs (disk_failed fault)
    (λ honest lays body is durable empty. laid_first body (g.D.Disk.view c.args.disk.now) (g.D.Disk.view c.lay_gate.new.disk) (lays durable empty)))

pub returns-in_err-put-clause-runs : goal.returns-in_err-put-clause-runs
returns-in_err-put-clause-runs g c =
    let p = err_from_is_err_and c.from_residual-in_err-put.result c.from_residual-in_err-put.ensures.1 in
    let view = g.D.Disk.view in
    let fault = c.in_err-put.field-0.0 in
    rw (p.1, p.2)
    (broken_by g.D.Disk {law = inscribes c.args.bytes.now} Device fault banks.Disk (fault_of_disk fault) c.args.disk.now c.put.new.disk
    (broken_on g.D.Disk Device fault c.args.disk.now c.lay_gate.new.disk c.put.new.disk c.in_ok-lay_gate.ensures.runs c.in_err-put.ensures.runs
    (λ honest still lays puts body is durable empty. laid_put body (view c.args.disk.now) (view c.lay_gate.new.disk)
    (view c.put.new.disk) (lays durable empty) (puts [] body is (c.in_ok-lay_gate.ensures.shut honest))))
    (disk_failed fault) (λ honest law. law))

pub returns-clause-runs : goal.returns-clause-runs
returns-clause-runs g c =
    let view = g.D.Disk.view in
    done_on g.D.Disk c.args.disk.now c.lay_gate.new.disk c.put.new.disk c.in_ok-lay_gate.ensures.runs c.in_ok-put.ensures.runs
    (λ honest still lays puts body is durable empty. laid_put body (view c.args.disk.now) (view c.lay_gate.new.disk)
    (view c.put.new.disk) (lays durable empty) (puts [] body is (c.in_ok-lay_gate.ensures.shut honest)))
    (λ honest two four. omega (arith, two, four))

pub returns-clause-done : goal.returns-clause-done
returns-clause-done g c body is honest =
    c.in_ok-put.ensures.done [] body is (c.in_ok-lay_gate.ensures.runs.honest.0 honest) (c.in_ok-lay_gate.ensures.shut honest)
