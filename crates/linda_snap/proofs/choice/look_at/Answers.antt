use Rattle.std.proofs.Common.{◌≤◌, length, take, subst, ap, ◌∙◌, arith}
use Rattle.std.proofs.lemmas.Result.{err_from_is_err_and}
use Rattle.linda_journal.specs.Heading.{IsHeading}
use Rattle.linda_snap.proofs.ChoiceLaws.{heading_of_front}
use Rattle.linda_disk.proofs.CauseLaws.{fails_on}
use Rattle.linda_snap.proofs.choice.look_at.Goals as goal

pub returns-clause-heading : goal.returns-clause-heading
returns-clause-heading g c honest =
    let seen = (g.D.Disk.view c.args.disk.now).seen in
    let synced = c.sync.ensures.honest.0 honest in
    let counted = c.len.ensures.honest.0 synced in
    let same = (c.len.ensures.keeps synced).seen ∙ (c.in_ok-sync.ensures.syncs honest).seen in
    let front = c.in_ok-read_at.ensures.bytes counted ∙ ap (take 17) same in
    let long : 17 ≤ length seen =
    omega (arith, c.if-len-lt-MIN_BYTES.false, c.in_ok-len.ensures.value synced, ap length (c.in_ok-sync.ensures.syncs honest).seen) in
    heading_of_front seen c.read_heading.result long (subst (λ l. IsHeading l c.read_heading.result) front c.read_heading.ensures)

pub returns-in_err-len-clause-cause : goal.returns-in_err-len-clause-cause
returns-in_err-len-clause-cause g c =
    let p = err_from_is_err_and c.from_residual-in_err-len.result c.from_residual-in_err-len.ensures.1 in
    let count = g.D.Disk.failures in
    rw (p.1, p.2) (fails_on c.in_err-len.field-0.0 (count c.args.disk.now) (count c.sync.new.self)
    (count c.len.new.self) c.in_ok-sync.ensures.cause.ok c.in_err-len.ensures.cause)

pub returns-in_err-read_at-clause-cause : goal.returns-in_err-read_at-clause-cause
returns-in_err-read_at-clause-cause g c =
    let p = err_from_is_err_and c.from_residual-in_err-read_at.result c.from_residual-in_err-read_at.ensures.1 in
    let count = g.D.Disk.failures in
    rw (p.1, p.2)
    (fails_on c.in_err-read_at.field-0.0 (count c.args.disk.now) (count c.len.new.self) (count c.read_at.new.self)
    (c.in_ok-len.ensures.cause.ok ∙ c.in_ok-sync.ensures.cause.ok) c.in_err-read_at.ensures.cause)
