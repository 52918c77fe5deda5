use Rattle.std.proofs.Common.{false}
use Rattle.std.proofs.lemmas.Result.{err_from_is_err_and}
use Rattle.linda_text.specs.Reading.{content_at}
use Rattle.linda_text.proofs.ContentLaws.{goes_on, is_done, fails}
use Rattle.linda_text.proofs.string.read_content.Goals as goal

pub returns-in_err-said : goal.returns-in_err-said
returns-in_err-said c =
    let p = err_from_is_err_and c.from_residual-in_err-said.result c.from_residual-in_err-said.ensures.1 in
    rw (p.1, p.2)
    (λ _. fails c.loop-content.content.items c.loop-content.rest.now c.in_err-said.field-0.0
    (content_at false c.args.bytes.now) c.in_err-said.ensures.value.1 c.loop-content.invariant)

pub returns-in_default : goal.returns-in_default
returns-in_default c =
    is_done c.loop-content.content.items c.loop-content.rest.now c.in_ok-said.said c.in_ok-said.after.now (content_at false c.args.bytes.now)
    c.in_default.is c.in_ok-said.ensures.value c.loop-content.invariant

pub loop-content-preserved : goal.loop-content-preserved
loop-content-preserved c =
    rw (c.in_ok-push.ensures.items)
    (goes_on c.loop-content.content.items c.loop-content.rest.now c.in_ok-said.said c.in-Some.byte c.in_ok-said.after.now (content_at false c.args.bytes.now)
    c.in-Some.is c.in_ok-said.ensures.value c.loop-content.invariant)
