-- The gate is closed, and then what is after it is cut off.
use Rattle.std.proofs.Common.{inr, refl, sym, subst}
use Rattle.linda_disk.specs.Runs.{IsDone, leaves, takes}
use Rattle.linda_disk.specs.declared.fault.DiskFault.TheVariants.{Device}
use Rattle.linda_disk.proofs.RunLaws.{joined}
use Rattle.linda_disk.proofs.RunsLaws.{runs_on}
use Rattle.linda_journal.specs.Renewal.{IsNoBank, IsSameOrNone, TakesCalls, shuts}
use Rattle.linda_journal.proofs.RenewalLaws.{then_calls}
use Rattle.linda_server.proofs.clearing.emptied.Goals as goal

pub returns-in-Ok-clause-runs : goal.returns-in-Ok-clause-runs
returns-in-Ok-clause-runs g c =
    let view = g.D.Disk.view in
    let old = c.args.disk in
    let mid = c.into_disk-disk.result in
    let new = c.cut_behind_gate-told.new.disk in
    let P = IsSameOrNone (view old).seen in
    let shut = subst (λ d. IsDone g.D.Disk shuts (TakesCalls 0) old d) (sym c.into_disk-disk.ensures.same) c.in-Ok.ensures.runs in
    runs_on g.D.Disk (leaves IsNoBank) shuts (takes 2) (TakesCalls 2) Device old mid c.cut_behind_gate-told.result new shut c.cut_behind_gate-told.ensures.runs
    (λ honest still shuts none. joined (view old) (view mid) (view new) P IsNoBank P shuts none (λ image is. is) (λ image is. inr is))
    (λ honest shut two. then_calls 0 2 2 (view old) (view mid) (view new) shut two refl)
