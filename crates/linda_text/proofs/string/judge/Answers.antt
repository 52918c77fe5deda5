use Rattle.std.proofs.lemmas.Result.{err_from_is_err_and}
use Rattle.linda_text.proofs.ContentLaws.{is_string, is_no_text, no_string}
use Rattle.linda_text.proofs.string.judge.Goals as goal

pub returns-in_err-count : goal.returns-in_err-count
returns-in_err-count c =
    let p = err_from_is_err_and c.from_residual.result c.from_residual.ensures.1 in
    rw (p.1, p.2) (c.in_err-count.ensures.value.0, no_string c.args.bytes.now c.in_err-count.field-0.0 c.in_err-count.ensures.value.1)

pub returns-in-Ok : goal.returns-in-Ok
returns-in-Ok c = is_string c.args.bytes.now c.in_ok-count.rest.now c.in_ok-count.count c.in_ok-count.ensures.value c.in-Ok.ensures.cases.1

pub returns-in-Err : goal.returns-in-Err
returns-in-Err c = (λ e. cc, is_no_text c.args.bytes.now c.in_ok-count.rest.now c.in_ok-count.count c.in_ok-count.ensures.value c.in-Err.ensures.cases.0)
