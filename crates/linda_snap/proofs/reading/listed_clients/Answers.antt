use Rattle.std.proofs.Common.{arith}
use Rattle.std.proofs.lemmas.Result.{err_from_is_err_and}
use Rattle.std.specs.FinMap.{entries}
use Rattle.linda_wire.specs.declared.limits.TheConstants.{MAX_CLIENTS}
use Rattle.linda_snap.specs.Snapshot as format
use Rattle.linda_snap.specs.Reading.{IsNumbered}
use Rattle.linda_snap.proofs.StateLaws.{listed_of, run_of}
use Rattle.linda_snap.proofs.reading.listed_clients.Goals as goal

pub returns-in_err-book-clause-fault : goal.returns-in_err-book-clause-fault
returns-in_err-book-clause-fault c =
    let p = err_from_is_err_and c.from_residual-in_err-book.result c.from_residual-in_err-book.ensures.1 in
    rw (p.1, p.2)
    (λ other m rest is. c.in_err-book.ensures.fault other m rest
    (run_of (format.kept c.args.form) IsNumbered MAX_CLIENTS c.args.bytes.now c.in_ok-count.count c.in_ok-count.rest.now
    (entries m) rest c.in_ok-count.ensures is))

pub returns-clause-found : goal.returns-clause-found
returns-clause-found c =
    listed_of (format.kept c.args.form) IsNumbered MAX_CLIENTS c.args.bytes.now c.in_ok-count.count c.in_ok-count.rest.now (entries c.in_ok-book.book)
    c.in_ok-book.rest.now (λ i. omega (arith, c.type_inv.bytes i)) c.in_ok-count.ensures
    (omega (arith, c.if-count-gt-MAX_CLIENTS.false)) c.in_ok-book.ensures.found
