use Rattle.linda_journal.proofs.ImageLaws.{counted}
use Rattle.std.proofs.lemmas.Result.{err_from_is_err_and}
use Rattle.linda_journal.proofs.CauseLaws.{none_told, bytes_fail_none}
use Rattle.linda_journal.proofs.contents.load.Goals as goal

pub returns-clause-counted : goal.returns-clause-counted
returns-clause-counted g c =
    counted c.in_ok-image.image.form c.in_ok-image.image.journal.records.items c.in_ok-image.image.at c.in_ok-image.image.journal.end c.in_ok-image.ensures.end

pub returns-in_err-bytes-clause-cause : goal.returns-in_err-bytes-clause-cause
returns-in_err-bytes-clause-cause g c =
    let p = err_from_is_err_and c.from_residual.result c.from_residual.ensures.1 in
    rw (p.1, p.2) c.in_err-bytes.ensures.cause

pub returns-in_err-image-clause-cause : goal.returns-in_err-image-clause-cause
returns-in_err-image-clause-cause g c =
    let p = err_from_is_err_and c.from_residual-in_err-image.result c.from_residual-in_err-image.ensures.1 in
    let count = g.D.Disk.failures in
    let fault = c.in_err-image.field-0.0 in
    rw (p.1, p.2) (none_told fault (count c.args.disk.now) (count c.read_all.new.disk)
    (bytes_fail_none c.deref.result.now fault c.in_err-image.ensures.fault) c.in_ok-bytes.ensures.steady)
