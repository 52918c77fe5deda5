use Rattle.std.proofs.Common.{arith, rules}
use Rattle.std.proofs.lemmas.Result.{err_from_is_err_and}
use Rattle.linda_snap.specs.Snapshot as format
use Rattle.linda_snap.specs.Reading.{IsPlacedBelow}
use Rattle.linda_book.proofs.ReplyFormatLaws.{placed_is}
use Rattle.linda_snap.proofs.ReadingLaws.{none_read, one_read, none_there, bad_there}
use Rattle.linda_snap.proofs.reading.read_tuples.Goals as goal

pub loop-init : goal.loop-init
loop-init g c = none_read (format.placed c.args.form) (IsPlacedBelow c.args.next) c.args.bytes.now
    (g.B.Bag.contents c.empty-bag.result) (λ i. omega (arith, c.type_inv.bytes i)) c.empty-bag.ensures

pub returns-in_err-id-clause-fault : goal.returns-in_err-id-clause-fault
returns-in_err-id-clause-fault g c =
    let p = err_from_is_err_and c.from_residual.result c.from_residual.ensures.1 in
    rw (p.1, p.2)
    (none_there (format.placed c.args.form) (IsPlacedBelow c.args.next) c.args.bytes.now (g.B.Bag.contents c.loop.bag) c.loop.low c.loop.counter
    c.args.count c.loop.rest.now c.in_err-id.field-0.0 (placed_is c.args.form) c.loop.invariant c.loop-test.true c.in_err-id.ensures)

pub returns-then-not-is_place-clause-fault : goal.returns-then-not-is_place-clause-fault
returns-then-not-is_place-clause-fault g c other =
    bad_there (format.placed c.args.form) (IsPlacedBelow c.args.next) c.args.bytes.now (g.B.Bag.contents c.loop.bag) c.loop.low c.loop.counter c.args.count
    c.loop.rest.now c.in_ok-id.after.now (c.in_ok-id.id, c.in_ok-id.tuple) (placed_is c.args.form) c.loop.invariant c.loop-test.true c.in_ok-id.ensures
    (λ rises good. c.if-not-is_place.ensures.no (search rules) rises good.0 good.1)

pub loop-preserved : goal.loop-preserved
loop-preserved g c =
    let good = c.if-not-is_place.ensures.yes (search rules) in
    one_read (format.placed c.args.form) (IsPlacedBelow c.args.next) c.args.bytes.now (g.B.Bag.contents c.loop.bag) (g.B.Bag.contents c.insert.new.self)
    c.loop.low c.loop.counter c.loop.rest.now c.in_ok-id.after.now c.in_ok-id.id c.in_ok-id.tuple
    (placed_is c.args.form) c.loop.invariant c.in_ok-id.ensures good.0 good.1 c.in_ok-insert.ensures.ok
