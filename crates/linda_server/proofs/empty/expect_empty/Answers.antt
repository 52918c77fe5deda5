-- Whose device failed, and which disk has bytes.
use Rattle.std.proofs.Common.{inl, inr, refl}
use Rattle.std.proofs.lemmas.Result.{err_from_is_err_and}
use Rattle.linda_server.specs.declared.fault.OpenFault.TheVariants.{Disk, LimitRange}
use Rattle.linda_server.proofs.CauseLaws.{left_told, right_told, none_told, range_fails_none}
use Rattle.linda_server.proofs.empty.expect_empty.Goals as goal

pub returns-in_err-expect_no_bytes-clause-cause : goal.returns-in_err-expect_no_bytes-clause-cause
returns-in_err-expect_no_bytes-clause-cause g c =
    let p = err_from_is_err_and c.from_residual.result c.from_residual.ensures.1 in
    let count = g.D.Disk.failures in
    rw (p.1, p.2)
    (left_told Disk c.in_err-expect_no_bytes.field-0.0 (count c.args.left.now) (count c.args.left.now)
    (count c.expect_no_bytes.new.disk) (count c.args.right.now) (count c.args.right.now)
    refl c.in_err-expect_no_bytes.ensures.cause refl)

pub returns-in_err-expect_no_bytes-clause-full : goal.returns-in_err-expect_no_bytes-clause-full
returns-in_err-expect_no_bytes-clause-full g c =
    let p = err_from_is_err_and c.from_residual.result c.from_residual.ensures.1 in
    rw (p.1, p.2) (λ is left right. inl (c.in_err-expect_no_bytes.ensures.full is left))

pub returns-in_err-expect_no_bytes-2-clause-cause : goal.returns-in_err-expect_no_bytes-2-clause-cause
returns-in_err-expect_no_bytes-2-clause-cause g c =
    let p = err_from_is_err_and c.from_residual-in_err-expect_no_bytes-2.result c.from_residual-in_err-expect_no_bytes-2.ensures.1 in
    let count = g.D.Disk.failures in
    rw (p.1, p.2)
    (right_told Disk c.in_err-expect_no_bytes-2.field-0.0 (count c.args.left.now) (count c.expect_no_bytes.new.disk)
    (count c.args.right.now) (count c.args.right.now) (count c.expect_no_bytes-2.new.disk)
    c.in_ok-expect_no_bytes.ensures.steady refl c.in_err-expect_no_bytes-2.ensures.cause)

pub returns-in_err-expect_no_bytes-2-clause-full : goal.returns-in_err-expect_no_bytes-2-clause-full
returns-in_err-expect_no_bytes-2-clause-full g c =
    let p = err_from_is_err_and c.from_residual-in_err-expect_no_bytes-2.result c.from_residual-in_err-expect_no_bytes-2.ensures.1 in
    rw (p.1, p.2) (λ is left right. inr (c.in_err-expect_no_bytes-2.ensures.full is right))

pub returns-else-is_limit-clause-cause : goal.returns-else-is_limit-clause-cause
returns-else-is_limit-clause-cause g c =
    let count = g.D.Disk.failures in
    none_told Disk LimitRange (count c.args.left.now) (count c.expect_no_bytes.new.disk)
    (count c.args.right.now) (count c.expect_no_bytes-2.new.disk) range_fails_none
    c.in_ok-expect_no_bytes.ensures.steady c.in_ok-expect_no_bytes-2.ensures.steady
