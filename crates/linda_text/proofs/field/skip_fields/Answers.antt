use Rattle.std.proofs.lemmas.Result.{err_from_is_err_and}
use Rattle.linda_tuple.specs.declared.limits.TheConstants.{MAX_FIELDS}
use Rattle.linda_text.specs.Reading.{fields_at}
use Rattle.linda_codec.specs.Steps.{left_by}
use Rattle.linda_text.proofs.SkipLaws.{starts, goes_on, closes, fails_between, fails_inside, ends}
use Rattle.linda_text.proofs.field.skip_fields.Goals as goal

pub loop-init : goal.loop-init
loop-init g c = starts g.F.Field.reading MAX_FIELDS c.args.bytes.now

pub returns-in_err-more : goal.returns-in_err-more
returns-in_err-more g c =
    let p = err_from_is_err_and c.from_residual.result c.from_residual.ensures.1 in
    rw (p.1, p.2) (
      c.in_err-more.ensures.0,
      fails_between g.F.Field.reading MAX_FIELDS c.loop.counter c.loop.rest.now c.in_err-more.field-0.0
          (left_by (fields_at g.F.Field.reading MAX_FIELDS c.args.bytes.now))
          c.loop-test.true c.in_err-more.ensures.1 c.loop.invariant,
    )

pub returns-then-not-more : goal.returns-then-not-more
returns-then-not-more g c =
    closes g.F.Field.reading MAX_FIELDS c.loop.counter c.loop.rest.now c.in_ok-more.more c.in_ok-more.after.now
    (left_by (fields_at g.F.Field.reading MAX_FIELDS c.args.bytes.now))
    c.loop-test.true c.if-not-more.true c.in_ok-more.ensures c.loop.invariant

pub returns-in_err-rest : goal.returns-in_err-rest
returns-in_err-rest g c =
    let p = err_from_is_err_and c.from_residual-in_err-rest.result c.from_residual-in_err-rest.ensures.1 in
    rw (p.1, p.2) (
      c.in_err-rest.ensures.0,
      fails_inside g.F.Field.reading MAX_FIELDS c.loop.counter c.loop.rest.now c.in_ok-more.more
          c.in_ok-more.after.now c.skip_blanks.result.now c.in_err-rest.field-0.0
          (left_by (fields_at g.F.Field.reading MAX_FIELDS c.args.bytes.now)) c.loop-test.true
          c.if-not-more.false c.in_ok-more.ensures c.skip_blanks.ensures c.in_err-rest.ensures.1 c.loop.invariant,
    )

pub loop-preserved : goal.loop-preserved
loop-preserved g c =
    goes_on g.F.Field.reading MAX_FIELDS c.loop.counter c.loop.rest.now c.in_ok-more.more c.in_ok-more.after.now c.skip_blanks.result.now c.in_ok-rest.rest.now
    (left_by (fields_at g.F.Field.reading MAX_FIELDS c.args.bytes.now)) c.loop-test.true c.if-not-more.false
    c.in_ok-more.ensures c.skip_blanks.ensures c.in_ok-rest.ensures c.loop.invariant

pub returns : goal.returns
returns g c =
    rw (ends g.F.Field.reading MAX_FIELDS c.loop.counter c.loop.rest.now
    (left_by (fields_at g.F.Field.reading MAX_FIELDS c.args.bytes.now)) c.loop-test.false c.loop.invariant)
    c.read_no_more.ensures
