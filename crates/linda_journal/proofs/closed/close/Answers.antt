-- The gate is closed already, or one write closes it.
use Rattle.std.proofs.Common.{◌≡◌, inl, arith}
use Rattle.std.proofs.lemmas.Result.{err_from_is_err_and}
use Rattle.linda_disk.specs.declared.fault.DiskFault.TheVariants.{Device}
use Rattle.linda_disk.proofs.RunLaws.{weaker}
use Rattle.linda_disk.proofs.RunsLaws.{broken_by, runs_on}
use Rattle.linda_disk.specs.Runs.{anything, takes}
use Rattle.linda_journal.specs.Renewal.{IsSameOrNone, TakesCalls, shuts}
use Rattle.linda_journal.proofs.RenewalLaws.{write_closed}
use Rattle.linda_journal.proofs.closed.close.Goals as goal

pub returns-in_err-is_closed-clause-runs : goal.returns-in_err-is_closed-clause-runs
returns-in_err-is_closed-clause-runs g c =
    let p = err_from_is_err_and c.from_residual.result c.from_residual.ensures.1 in
    let old = g.D.Disk.view c.args.disk.now in
    rw (p.1, p.2)
    (broken_by g.D.Disk Device c.in_err-is_closed.field-0.0 Device c.in_err-is_closed.field-0.0
    c.args.disk.now c.is_closed.new.disk c.in_err-is_closed.ensures.runs ((λ is. is), (λ is. is))
    (λ honest still. weaker old (g.D.Disk.view c.is_closed.new.disk) (λ image. image ≡ old.seen) (IsSameOrNone old.seen) still (λ image is. inl is)))

pub returns-clause-runs : goal.returns-clause-runs
returns-clause-runs g c =
    let view = g.D.Disk.view in
    runs_on g.D.Disk anything shuts (takes 2) (TakesCalls 0) Device c.args.disk.now c.is_closed.new.disk
    c.write_synced.result c.write_synced.new.disk c.in_ok-is_closed.ensures.runs c.write_synced.ensures.runs
    (λ honest still stays any.
    write_closed (view c.args.disk.now) (view c.is_closed.new.disk) (view c.write_synced.new.disk) stays
    (c.is_closed.ensures.seen honest) (c.in_ok-is_closed.ensures.no honest c.if-branch.false)
    ((c.write_synced.ensures.writes still).any_moment (c.is_closed.ensures.durable honest)))
    (λ honest none two. inl (c.in_ok-is_closed.ensures.no honest c.if-branch.false, omega (arith, none, two)))
