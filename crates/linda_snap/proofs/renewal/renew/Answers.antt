-- The gate is closed, all is written after it, and the gate is opened.
use Rattle.std.proofs.Common.{◌+◌, [], length, subst, sym, arith}
use Rattle.linda_store_state.specs.DeedFormat.{written}
use Rattle.linda_disk.specs.Run.{LeavesOnly}
use Rattle.linda_disk.specs.Runs.{IsDone}
use Rattle.linda_disk.specs.declared.fault.DiskFault.TheVariants.{Device}
use Rattle.linda_disk.proofs.RunsLaws.{broken_by, broken_on, done_on}
use Rattle.linda_journal.specs.Bank.{IsSettled, IsNoneOrNew}
use Rattle.linda_journal.specs.Renewal.{IsWhole, TakesCalls, pieces}
use Rattle.linda_journal.proofs.RenewalLaws.{then_calls}
use Rattle.linda_snap.specs.Switch.{renews}
use Rattle.linda_snap.proofs.StandsLaws.{closing, filling, opening}
use Rattle.linda_snap.proofs.renewal.renew.Goals as goal

pub returns-in-Err-clause-runs : goal.returns-in-Err-clause-runs
returns-in-Err-clause-runs g c =
    let fault = c.in-Err.fault in
    broken_by g.D.Disk Device fault Device fault c.args.other c.in-Err.other c.in-Err.ensures.runs ((λ is. is), (λ is. is))
    (λ honest shuts body short is. closing c.args.generation body (g.D.Disk.view c.args.other) (g.D.Disk.view c.in-Err.other) shuts)

pub returns-in-Err-write_body-clause-runs : goal.returns-in-Err-write_body-clause-runs
returns-in-Err-write_body-clause-runs g c =
    let view = g.D.Disk.view in
    broken_on g.D.Disk Device c.in-Err-write_body.fault c.args.other c.in-Ok.closed.disk c.in-Err-write_body.other c.in-Ok.ensures.runs
    c.in-Err-write_body.ensures.runs
    (λ honest one shuts none body short is. filling c.args.generation body (view c.args.other) (view c.in-Ok.closed.disk)
    (view c.in-Err-write_body.other) shuts none)

pub returns-in-Err-unlock-clause-runs : goal.returns-in-Err-unlock-clause-runs
returns-in-Err-unlock-clause-runs g c =
    let view = g.D.Disk.view in
    let old = c.args.other in
    let mid = c.in-Ok.closed.disk in
    let w = c.in-Ok-write_body.whole in
    let new = c.in-Err-unlock.other in
    let all = pieces (length c.args.bytes.now) in
    let filled : IsDone g.D.Disk (renews c.args.generation c.args.bytes.now) (TakesCalls (all + 1)) old w.disk =
    done_on g.D.Disk old mid w.disk c.in-Ok.ensures.runs c.in-Ok-write_body.ensures.runs
    (λ honest one shuts none body short is. filling c.args.generation body (view old) (view mid) (view w.disk) shuts none)
    (λ honest shut filled. then_calls 0 (all + 1) (all + 1) (view old) (view mid) (view w.disk) shut filled (omega arith)) in
    broken_on g.D.Disk Device c.in-Err-unlock.fault old w.disk new filled c.in-Err-unlock.ensures.runs
    (λ honest two renews unlocks body short is.
    let whole = subst (λ n. IsWhole written n body w.end (view w.disk)) (sym c.in-Ok-write_body.ensures.new.0)
    (c.in-Ok-write_body.ensures.whole body short is (c.in-Ok.ensures.runs.honest.0 honest)) in
    opening c.args.generation body (view old) (view w.disk) (view new) (renews body short is)
    (subst (λ n. LeavesOnly (view w.disk) (view new) (IsNoneOrNew written n body)) c.in-Ok-write_body.ensures.new.0 (unlocks body whole)))

pub returns-in-Ok-unlock-clause-runs : goal.returns-in-Ok-unlock-clause-runs
returns-in-Ok-unlock-clause-runs g c =
    let view = g.D.Disk.view in
    let old = c.args.other in
    let mid = c.in-Ok.closed.disk in
    let w = c.in-Ok-write_body.whole in
    let new = c.in-Ok-unlock.bank.disk in
    let all = pieces (length c.args.bytes.now) in
    let filled : IsDone g.D.Disk (renews c.args.generation c.args.bytes.now) (TakesCalls (all + 1)) old w.disk =
    done_on g.D.Disk old mid w.disk c.in-Ok.ensures.runs c.in-Ok-write_body.ensures.runs
    (λ honest one shuts none body short is. filling c.args.generation body (view old) (view mid) (view w.disk) shuts none)
    (λ honest shut filled. then_calls 0 (all + 1) (all + 1) (view old) (view mid) (view w.disk) shut filled (omega arith)) in
    done_on g.D.Disk old w.disk new filled c.in-Ok-unlock.ensures.runs
    (λ honest two renews unlocks body short is.
    let whole = subst (λ n. IsWhole written n body w.end (view w.disk)) (sym c.in-Ok-write_body.ensures.new.0)
    (c.in-Ok-write_body.ensures.whole body short is (c.in-Ok.ensures.runs.honest.0 honest)) in
    opening c.args.generation body (view old) (view w.disk) (view new) (renews body short is)
    (subst (λ n. LeavesOnly (view w.disk) (view new) (IsNoneOrNew written n body)) c.in-Ok-write_body.ensures.new.0 (unlocks body whole)))
    (λ honest filled two. then_calls (all + 1) 2 (3 + all) (view old) (view w.disk) (view new) filled two (omega arith))

pub returns-in-Ok-unlock-clause-done : goal.returns-in-Ok-unlock-clause-done
returns-in-Ok-unlock-clause-done g c body short is honest =
    let w = c.in-Ok-write_body.whole in
    let one = c.in-Ok.ensures.runs.honest.0 honest in
    let whole = subst (λ n. IsWhole written n body w.end (g.D.Disk.view w.disk)) (sym c.in-Ok-write_body.ensures.new.0)
    (c.in-Ok-write_body.ensures.whole body short is one) in
    subst (λ n. IsSettled written n body [] c.in-Ok-unlock.bank.end (g.D.Disk.view c.in-Ok-unlock.bank.disk)) c.in-Ok-write_body.ensures.new.0
    (c.in-Ok-unlock.ensures.done body (c.in-Ok-write_body.ensures.runs.honest.0 one) whole)
