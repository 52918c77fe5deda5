-- The failures of both calls are counted.
use Rattle.std.proofs.lemmas.Result.{err_from_is_err_and}
use Rattle.linda_disk.proofs.CauseLaws.{fails_on}
use Rattle.linda_disk.proofs.synced.write_synced.Goals as goal

pub returns-in_err-sync-clause-cause : goal.returns-in_err-sync-clause-cause
returns-in_err-sync-clause-cause g c =
    let p = err_from_is_err_and c.from_residual-in_err-sync.result c.from_residual-in_err-sync.ensures.1 in
    let count = g.D.Disk.failures in
    rw (p.1, p.2) (fails_on c.in_err-sync.field-0.0 (count c.args.disk.now) (count c.write_at.new.self)
    (count c.sync.new.self) c.in_ok-write_at.ensures.cause.ok c.in_err-sync.ensures.cause)
