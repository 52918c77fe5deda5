use Rattle.std.proofs.lemmas.Result.{err_from_is_err_and}
use Rattle.linda_codec.specs.Steps.{many_at}
use Rattle.linda_codec.proofs.LoopLaws.{starts, goes_on, ends, is_done}
use Rattle.linda_codec.proofs.list.read_list.Goals as goal

pub loop-init : goal.loop-init
loop-init g c = starts (g.V.Spelled.format c.args.form).read c.in_ok-values.values.items c.args.count c.args.bytes.now c.in_ok-values.ensures.items

pub loop-preserved : goal.loop-preserved
loop-preserved g c =
    rw (c.in_ok-push.ensures.items)
    (goes_on (g.V.Spelled.format c.args.form).read c.loop.values.items c.args.count c.loop.counter c.loop.rest.now c.in_ok-value.value
    c.in_ok-value.after.now (many_at (g.V.Spelled.format c.args.form).read c.args.count c.args.bytes.now)
    c.loop-test.true c.in_ok-value.ensures.value c.loop.invariant)

pub returns-in_err-value : goal.returns-in_err-value
returns-in_err-value g c =
    let p = err_from_is_err_and c.from_residual-in_err-value.result c.from_residual-in_err-value.ensures.1 in
    rw (p.1, p.2)
    (ends (g.V.Spelled.format c.args.form).read c.in_err-value.field-0.0 c.loop.values.items c.args.count c.loop.counter c.loop.rest.now
    (many_at (g.V.Spelled.format c.args.form).read c.args.count c.args.bytes.now) c.loop-test.true c.in_err-value.ensures.value c.loop.invariant)

pub returns : goal.returns
returns g c = is_done (g.V.Spelled.format c.args.form).read c.loop.values.items c.args.count c.loop.counter c.loop.rest.now
    (many_at (g.V.Spelled.format c.args.form).read c.args.count c.args.bytes.now) c.loop-test.false c.loop.invariant
