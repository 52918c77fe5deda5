-- The failures of both calls are reported.
use Rattle.std.proofs.Common.{refl}
use Rattle.linda_journal.specs.declared.fault.BankFault.TheVariants as banks
use Rattle.std.proofs.lemmas.Result.{err_from_is_err_and}
use Rattle.linda_journal.proofs.CauseLaws.{device_told, none_told, memory_fails_none}
use Rattle.linda_journal.proofs.contents.read_all.Goals as goal

pub returns-in_err-len-clause-cause : goal.returns-in_err-len-clause-cause
returns-in_err-len-clause-cause g c =
    let p = err_from_is_err_and c.from_residual.result c.from_residual.ensures.1 in
    let count = g.D.Disk.failures in
    rw (p.1, p.2) (device_told c.in_err-len.field-0.0 (count c.args.disk.now) (count c.args.disk.now) (count c.len.new.self) refl c.in_err-len.ensures.cause)

pub returns-in_err-bytes-clause-cause : goal.returns-in_err-bytes-clause-cause
returns-in_err-bytes-clause-cause g c =
    let p = err_from_is_err_and c.from_residual-in_err-bytes.result c.from_residual-in_err-bytes.ensures.1 in
    let count = g.D.Disk.failures in
    rw (p.1, p.2) (none_told banks.Memory (count c.args.disk.now) (count c.len.new.self) memory_fails_none c.in_ok-len.ensures.cause.ok)

pub returns-in_err-read_at-clause-cause : goal.returns-in_err-read_at-clause-cause
returns-in_err-read_at-clause-cause g c =
    let p = err_from_is_err_and c.from_residual-in_err-read_at.result c.from_residual-in_err-read_at.ensures.1 in
    let count = g.D.Disk.failures in
    rw (p.1, p.2) (device_told c.in_err-read_at.field-0.0 (count c.args.disk.now) (count c.len.new.self)
    (count c.read_at.new.self) c.in_ok-len.ensures.cause.ok c.in_err-read_at.ensures.cause)
