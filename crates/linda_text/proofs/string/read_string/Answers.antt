use Rattle.std.proofs.Common.{rules}
use Rattle.std.specs.Prelude.{IsOk}
use Rattle.std.proofs.lemmas.Result.{err_from_is_err_and}
use Rattle.linda_text.proofs.ContentLaws.{is_read, read_fails}
use Rattle.linda_text.proofs.string.read_string.Goals as goal

pub returns-in_err-said-clause-value : goal.returns-in_err-said-clause-value
returns-in_err-said-clause-value c =
    let p = err_from_is_err_and c.from_residual-in_err-said.result c.from_residual-in_err-said.ensures.1 in
    rw (p.1, p.2) (λ other. read_fails c.args.bytes.now c.in_err-said.field-0.0 (c.in_err-said.ensures other))

-- What was judged is UTF-8.
pub unreachable-requires : goal.unreachable-requires
unreachable-requires c =
    let read = is_read c.args.bytes.now c.in_ok-said.said.items c.in_ok-said.rest.now c.in_ok-count.field-0-1.now
    c.in_ok-count.count c.in_ok-count.ensures c.in_ok-said.ensures in
    let made_one : IsOk c.from_utf8.result = c.from_utf8.ensures.succeeds read.1 in
    search (rules, made_one, c.in_default.is)

pub returns-clause-value : goal.returns-clause-value
returns-clause-value c =
    let read = is_read c.args.bytes.now c.in_ok-said.said.items c.in_ok-said.rest.now c.in_ok-count.field-0-1.now
    c.in_ok-count.count c.in_ok-count.ensures c.in_ok-said.ensures in
    rw (c.new.ensures, c.in-Ok.ensures.ok) read.0
