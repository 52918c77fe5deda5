use Rattle.std.proofs.Common.{false, ap, ◌∙◌}
use Rattle.std.specs.Prelude.{not}
use Rattle.std.proofs.lemmas.Result.{err_from_is_err_and}
use Rattle.linda_text.specs.Reading.{content_at}
use Rattle.linda_codec.specs.Steps.{left_by}
use Rattle.linda_text.proofs.ContentLaws.{skips_on, skips_done, skip_fails}
use Rattle.linda_text.proofs.string.skip_content.Goals as goal

pub returns-in_err-said : goal.returns-in_err-said
returns-in_err-said c =
    let p = err_from_is_err_and c.from_residual.result c.from_residual.ensures.1 in
    rw (p.1, p.2) (
      c.in_err-said.ensures.value.0,
      skip_fails c.loop-said.rest.now c.in_err-said.field-0.0
          (left_by (content_at false c.args.bytes.now)) c.in_err-said.ensures.value.1 c.loop-said.invariant,
    )

pub returns-then-is_none : goal.returns-then-is_none
returns-then-is_none c =
    skips_done c.loop-said.rest.now c.in_ok-said.said c.in_ok-said.after.now (left_by (content_at false c.args.bytes.now))
    (c.is_none.ensures ∙ ap not c.if-is_none.true) c.in_ok-said.ensures.value c.loop-said.invariant

pub loop-said-preserved : goal.loop-said-preserved
loop-said-preserved c =
    skips_on c.loop-said.rest.now c.in_ok-said.said c.in_ok-said.after.now (left_by (content_at false c.args.bytes.now))
    (c.is_none.ensures ∙ ap not c.if-is_none.false) c.in_ok-said.ensures.value c.loop-said.invariant
