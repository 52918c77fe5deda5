use Rattle.std.proofs.Common.{◌∙◌, false, length, ap, arith}
use Rattle.std.specs.Prelude.{not}
use Rattle.std.proofs.lemmas.Result.{err_from_is_err_and}
use Rattle.linda_text.specs.Reading.{content_at, made}
use Rattle.linda_text.proofs.ContentLaws.{counts_on, counts_done, count_fails, is_short, short_fails, is_long, long_fails}
use Rattle.linda_text.proofs.string.measure.Goals as goal

pub returns-in_err-said-clause-value : goal.returns-in_err-said-clause-value
returns-in_err-said-clause-value c =
    let p = err_from_is_err_and c.from_residual.result c.from_residual.ensures.1 in
    let all = count_fails c.loop-said.count c.loop-said.rest.now c.in_err-said.field-0.0
    (made length (content_at false c.args.bytes.now)) c.in_err-said.ensures.value.1 c.loop-said.invariant.said in
    rw (p.1, p.2) (c.in_err-said.ensures.value.0, short_fails c.args.bytes.now c.in_err-said.field-0.0 all)

pub returns-then-is_none-clause-value : goal.returns-then-is_none-clause-value
returns-then-is_none-clause-value c =
    let all = counts_done c.loop-said.count c.loop-said.rest.now c.in_ok-said.said c.in_ok-said.after.now (made length (content_at false c.args.bytes.now))
    (c.is_none.ensures ∙ ap not c.if-is_none.true) c.in_ok-said.ensures.value c.loop-said.invariant.said in
    is_short c.args.bytes.now c.in_ok-said.after.now c.loop-said.count c.loop-said.invariant.few all

pub returns-in_err-skip_content-clause-value : goal.returns-in_err-skip_content-clause-value
returns-in_err-skip_content-clause-value c =
    let p = err_from_is_err_and c.from_residual-in_err-skip_content.result c.from_residual-in_err-skip_content.ensures.1 in
    let one_more = counts_on c.loop-said.count c.loop-said.rest.now c.in_ok-said.said c.in_ok-said.after.now (made length (content_at false c.args.bytes.now))
    (c.is_none.ensures ∙ ap not c.if-is_none.false) c.in_ok-said.ensures.value c.loop-said.invariant.said in
    rw (p.1, p.2) (
      c.in_err-skip_content.ensures.0,
      long_fails c.args.bytes.now c.in_ok-said.after.now c.loop-said.count c.in_err-skip_content.field-0.0 c.in_err-skip_content.ensures.1 one_more,
    )

pub returns-then-count-eq-MAX_TEXT-clause-value : goal.returns-then-count-eq-MAX_TEXT-clause-value
returns-then-count-eq-MAX_TEXT-clause-value c =
    let one_more = counts_on c.loop-said.count c.loop-said.rest.now c.in_ok-said.said c.in_ok-said.after.now (made length (content_at false c.args.bytes.now))
    (c.is_none.ensures ∙ ap not c.if-is_none.false) c.in_ok-said.ensures.value c.loop-said.invariant.said in (
      λ e. cc,
      is_long c.args.bytes.now c.in_ok-said.after.now c.in_ok-skip_content.field-0.now
          c.loop-said.count c.if-count-eq-MAX_TEXT.true c.in_ok-skip_content.ensures one_more,
    )

pub loop-said-preserved : goal.loop-said-preserved
loop-said-preserved c =
    record {
      said = counts_on c.loop-said.count c.loop-said.rest.now c.in_ok-said.said c.in_ok-said.after.now (made length (content_at false c.args.bytes.now))
          (c.is_none.ensures ∙ ap not c.if-is_none.false) c.in_ok-said.ensures.value c.loop-said.invariant.said;
      few = omega (arith, c.loop-said.invariant.few, c.if-count-eq-MAX_TEXT.false);
      left = omega (arith, c.in_ok-said.ensures.shorter, c.loop-said.invariant.left);
    }
