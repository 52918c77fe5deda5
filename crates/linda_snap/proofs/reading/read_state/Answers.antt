use Rattle.std.proofs.Common.{◌≡◌, [], length, ap, sym, ◌∙◌, subst, eq-eqb, true≢false, arith}
use Rattle.std.proofs.lemmas.Bool.{eqb-true}
use Rattle.linda_wire.specs.declared.limits.TheConstants.{MAX_CLIENTS}
use Rattle.linda_snap.specs.Snapshot as format
use Rattle.linda_snap.specs.Reading.{IsListed, IsNumbered}
use Rattle.std.proofs.lemmas.Result.{err_from_is_err_and}
use Rattle.std.specs.FinMap.{entries}
use Rattle.linda_snap.proofs.StateLaws.{state_there, no_tuples, no_clients, bytes_left, none_left}
use Rattle.linda_snap.proofs.reading.read_state.Goals as goal

pub returns-in_err-bag-clause-fault : goal.returns-in_err-bag-clause-fault
returns-in_err-bag-clause-fault g c =
    let p = err_from_is_err_and c.from_residual-in_err-bag.result c.from_residual-in_err-bag.ensures.1 in
    rw (p.1, p.2) (λ other. no_tuples c.args.form c.args.bytes.now c.in_ok-next.next c.in_ok-next.rest.now c.in_ok-next.ensures
    (c.in_err-bag.ensures.fault other))

pub returns-in_err-book-clause-fault : goal.returns-in_err-book-clause-fault
returns-in_err-book-clause-fault g c =
    let p = err_from_is_err_and c.from_residual-in_err-book.result c.from_residual-in_err-book.ensures.1 in
    rw (p.1, p.2)
    (λ other. no_clients c.args.form c.args.bytes.now c.in_ok-next.next c.in_ok-next.rest.now c.in_ok-bag.rest.now
    (entries (g.B.Bag.contents c.in_ok-bag.bag)) c.in_ok-next.ensures c.in_ok-bag.ensures.found (c.in_err-book.ensures.fault other))

pub returns-then-not-is_empty-clause-fault : goal.returns-then-not-is_empty-clause-fault
returns-then-not-is_empty-clause-fault g c other =
    bytes_left c.args.form c.args.bytes.now c.in_ok-next.next c.in_ok-next.rest.now c.in_ok-bag.rest.now c.in_ok-book.rest.now
    (entries (g.B.Bag.contents c.in_ok-bag.bag)) (entries c.in_ok-book.book) c.in_ok-next.ensures c.in_ok-bag.ensures.found c.in_ok-book.ensures.found
    (λ none. true≢false (sym (eq-eqb (length c.in_ok-book.rest.now) 0 (ap length none)) ∙ sym c.if-not-is_empty.ensures))

pub returns-clause-found : goal.returns-clause-found
returns-clause-found g c =
    let none : c.in_ok-book.rest.now ≡ [] = none_left c.in_ok-book.rest.now (eqb-true (length c.in_ok-book.rest.now) 0 (sym c.if-not-is_empty.ensures)) in
    state_there c.args.form c.args.bytes.now c.in_ok-next.rest.now c.in_ok-bag.rest.now c.in_ok-next.next
    (g.B.Bag.contents c.in_ok-bag.bag) c.in_ok-book.book (λ i. omega (arith, c.type_inv.bytes i)) c.in_ok-next.ensures
    (grind (arith, c.if-next-eq0.false)) (omega (arith, c.if-next-gt-NUMBER_LIMIT.false)) c.in_ok-bag.ensures.found
    (subst (λ l. IsListed (format.kept c.args.form) IsNumbered MAX_CLIENTS c.in_ok-bag.rest.now (entries c.in_ok-book.book) l) none c.in_ok-book.ensures.found)
