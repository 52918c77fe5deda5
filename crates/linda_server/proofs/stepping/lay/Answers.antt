-- The first gate is closed, and the bytes are written after it.
use Rattle.std.proofs.Common.{inr, [], sym, subst}
use Rattle.linda_disk.specs.Runs.{IsDone, anything}
use Rattle.linda_disk.specs.declared.fault.DiskFault.TheVariants.{Device}
use Rattle.linda_disk.proofs.RunLaws.{joined}
use Rattle.linda_disk.proofs.RunsLaws.{done_on, broken_on}
use Rattle.linda_journal.specs.Renewal.{IsNoBank, IsSameOrNone, IsFilled, TakesCalls, shuts}
use Rattle.linda_server.proofs.stepping.lay.Goals as goal

pub returns-in-Err-add-clause-runs : goal.returns-in-Err-add-clause-runs
returns-in-Err-add-clause-runs g c =
    let view = g.D.Disk.view in
    let old = c.args.disk in
    let b = c.begin.result in
    let new = c.in-Err-add.disk in
    let P = IsSameOrNone (view old).seen in
    let shut = subst (λ d. IsDone g.D.Disk shuts (TakesCalls 0) old d) (sym c.begin.ensures.same.0) c.in-Ok.ensures.runs in
    broken_on g.D.Disk Device c.in-Err-add.fault old b.disk new shut c.in-Err-add.ensures.runs
    (λ honest still shuts fills.
    joined (view old) (view b.disk) (view new) P IsNoBank P shuts
    (fills [] (subst (λ n. IsFilled [] n (view b.disk)) (sym c.begin.ensures.same.1) (c.begin.ensures.filled still)))
    (λ image is. is) (λ image none. inr none))

pub returns-in-Ok-add-clause-runs : goal.returns-in-Ok-add-clause-runs
returns-in-Ok-add-clause-runs g c =
    let view = g.D.Disk.view in
    let old = c.args.disk in
    let b = c.begin.result in
    let new = c.in-Ok-add.filling.disk in
    let P = IsSameOrNone (view old).seen in
    let shut = subst (λ d. IsDone g.D.Disk shuts (TakesCalls 0) old d) (sym c.begin.ensures.same.0) c.in-Ok.ensures.runs in
    subst (λ d. IsDone g.D.Disk shuts anything old d) (sym c.into_disk.ensures)
    (done_on g.D.Disk old b.disk new shut c.in-Ok-add.ensures.runs
    (λ honest still shuts fills.
    joined (view old) (view b.disk) (view new) P IsNoBank P shuts
    (fills [] (subst (λ n. IsFilled [] n (view b.disk)) (sym c.begin.ensures.same.1) (c.begin.ensures.filled still)))
    (λ image is. is) (λ image none. inr none))
    (λ honest shut filled. tt))
