use Rattle.std.proofs.Common.{arith}
use Rattle.std.proofs.lemmas.Result.{err_from_is_err_and}
use Rattle.std.specs.FinMap.{entries}
use Rattle.linda_snap.specs.Snapshot as format
use Rattle.linda_snap.specs.Reading.{IsPlacedBelow, ANY_COUNT}
use Rattle.linda_codec.proofs.FormatLaws.{short_number_is}
use Rattle.linda_snap.proofs.StateLaws.{listed_of, run_of}
use Rattle.linda_snap.proofs.reading.listed_tuples.Goals as goal

pub returns-in_err-bag-clause-fault : goal.returns-in_err-bag-clause-fault
returns-in_err-bag-clause-fault g c =
    let p = err_from_is_err_and c.from_residual-in_err-bag.result c.from_residual-in_err-bag.ensures.1 in
    rw (p.1, p.2)
    (λ other m rest is. c.in_err-bag.ensures.fault other m rest
    (run_of (format.placed c.args.form) (IsPlacedBelow c.args.next) ANY_COUNT c.args.bytes.now
    c.in_ok-count.count c.in_ok-count.rest.now (entries m) rest c.in_ok-count.ensures is))

pub returns-clause-found : goal.returns-clause-found
returns-clause-found g c =
    let small = (short_number_is.takes c.args.bytes.now (c.in_ok-count.count, c.in_ok-count.rest.now)
    (λ i. omega (arith, c.type_inv.bytes i)) c.in_ok-count.ensures).1 in
    listed_of (format.placed c.args.form) (IsPlacedBelow c.args.next) ANY_COUNT c.args.bytes.now c.in_ok-count.count c.in_ok-count.rest.now
    (entries (g.B.Bag.contents c.in_ok-bag.bag)) c.in_ok-bag.rest.now
    (λ i. omega (arith, c.type_inv.bytes i)) c.in_ok-count.ensures (omega (arith, small)) c.in_ok-bag.ensures.found
