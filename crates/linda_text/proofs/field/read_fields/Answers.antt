use Rattle.std.proofs.lemmas.Result.{err_from_is_err_and}
use Rattle.linda_tuple.specs.declared.limits.TheConstants.{MAX_FIELDS}
use Rattle.linda_text.specs.Reading.{fields_at}
use Rattle.linda_text.proofs.LoopLaws.{starts, goes_on, closes, fails_between, fails_inside, is_full, fails_full}
use Rattle.linda_text.proofs.field.read_fields.Goals as goal

pub loop-init : goal.loop-init
loop-init g c = starts g.F.Field.reading c.new-fields.result.items MAX_FIELDS c.args.bytes.now c.new-fields.ensures.items

pub returns-in_err-more : goal.returns-in_err-more
returns-in_err-more g c =
    let p = err_from_is_err_and c.from_residual.result c.from_residual.ensures.1 in
    rw (p.1, p.2)
    (λ _. fails_between g.F.Field.reading c.loop.fields.items MAX_FIELDS c.loop.counter c.loop.rest.now
    c.in_err-more.field-0.0 (fields_at g.F.Field.reading MAX_FIELDS c.args.bytes.now)
    c.loop-test.true c.in_err-more.ensures.1 c.loop.invariant)

pub returns-then-not-more : goal.returns-then-not-more
returns-then-not-more g c =
    closes g.F.Field.reading c.loop.fields.items MAX_FIELDS c.loop.counter c.loop.rest.now c.in_ok-more.more c.in_ok-more.after.now
    (fields_at g.F.Field.reading MAX_FIELDS c.args.bytes.now)
    c.loop-test.true c.if-not-more.true c.in_ok-more.ensures c.loop.invariant

pub returns-in_err-field : goal.returns-in_err-field
returns-in_err-field g c =
    let p = err_from_is_err_and c.from_residual-in_err-field.result c.from_residual-in_err-field.ensures.1 in
    rw (p.1, p.2)
    (fails_inside g.F.Field.reading c.loop.fields.items MAX_FIELDS c.loop.counter c.loop.rest.now
    c.in_ok-more.more c.in_ok-more.after.now c.skip_blanks.result.now c.in_err-field.field-0.0
    (fields_at g.F.Field.reading MAX_FIELDS c.args.bytes.now) c.loop-test.true c.if-not-more.false
    c.in_ok-more.ensures c.skip_blanks.ensures c.in_err-field.ensures c.loop.invariant)

pub loop-preserved : goal.loop-preserved
loop-preserved g c =
    rw (c.in_ok-push.ensures.items)
    (goes_on g.F.Field.reading c.loop.fields.items MAX_FIELDS c.loop.counter c.loop.rest.now c.in_ok-more.more
    c.in_ok-more.after.now c.skip_blanks.result.now c.in_ok-field.field c.in_ok-field.after.now
    (fields_at g.F.Field.reading MAX_FIELDS c.args.bytes.now) c.loop-test.true c.if-not-more.false
    c.in_ok-more.ensures c.skip_blanks.ensures c.in_ok-field.ensures c.loop.invariant)

pub returns-in_err-rest : goal.returns-in_err-rest
returns-in_err-rest g c =
    let p = err_from_is_err_and c.from_residual-in_err-rest.result c.from_residual-in_err-rest.ensures.1 in
    rw (p.1, p.2)
    (λ _. fails_full g.F.Field.reading c.loop.fields.items MAX_FIELDS c.loop.counter c.loop.rest.now
    c.in_err-rest.field-0.0 (fields_at g.F.Field.reading MAX_FIELDS c.args.bytes.now)
    c.loop-test.false c.in_err-rest.ensures.1 c.loop.invariant)

pub returns : goal.returns
returns g c =
    is_full g.F.Field.reading c.loop.fields.items MAX_FIELDS c.loop.counter c.loop.rest.now c.in_ok-rest.rest.now
    (fields_at g.F.Field.reading MAX_FIELDS c.args.bytes.now)
    c.loop-test.false c.in_ok-rest.ensures c.loop.invariant
