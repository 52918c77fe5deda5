use Rattle.std.proofs.Common.{arith, rules}
use Rattle.std.proofs.lemmas.Result.{err_from_is_err_and}
use Rattle.linda_snap.specs.Snapshot as format
use Rattle.linda_snap.specs.Reading.{IsNumbered}
use Rattle.linda_snap.proofs.SnapshotLaws.{kept_is}
use Rattle.linda_snap.proofs.ReadingLaws.{none_read, one_read, none_there, bad_there}
use Rattle.linda_snap.proofs.reading.read_clients.Goals as goal

pub loop-init : goal.loop-init
loop-init c = none_read (format.kept c.args.form) IsNumbered c.args.bytes.now c.new-book.result (λ i. omega (arith, c.type_inv.bytes i)) c.new-book.ensures

pub returns-in_err-client-clause-fault : goal.returns-in_err-client-clause-fault
returns-in_err-client-clause-fault c =
    let p = err_from_is_err_and c.from_residual.result c.from_residual.ensures.1 in
    rw (p.1, p.2)
    (none_there (format.kept c.args.form) IsNumbered c.args.bytes.now c.loop.book c.loop.low c.loop.counter c.args.count
    c.loop.rest.now c.in_err-client.field-0.0 (kept_is c.args.form) c.loop.invariant c.loop-test.true c.in_err-client.ensures)

pub returns-then-not-is_kept-clause-fault : goal.returns-then-not-is_kept-clause-fault
returns-then-not-is_kept-clause-fault c other =
    bad_there (format.kept c.args.form) IsNumbered c.args.bytes.now c.loop.book c.loop.low c.loop.counter c.args.count c.loop.rest.now
    c.in_ok-client.after.now (c.in_ok-client.client, c.in_ok-client.entry) (kept_is c.args.form) c.loop.invariant c.loop-test.true c.in_ok-client.ensures
    (λ rises good. c.if-not-is_kept.ensures.no (search rules) rises good.0 good.1)

pub loop-preserved : goal.loop-preserved
loop-preserved c =
    let good = c.if-not-is_kept.ensures.yes (search rules) in
    rw c.from-low.ensures
    (one_read (format.kept c.args.form) IsNumbered c.args.bytes.now c.loop.book c.keep.new.self c.loop.low c.loop.counter c.loop.rest.now
    c.in_ok-client.after.now c.in_ok-client.client c.in_ok-client.entry
    (kept_is c.args.form) c.loop.invariant c.in_ok-client.ensures good.0 good.1 c.in_ok-keep.ensures.ok)
