use Rattle.std.proofs.lemmas.Result.{err_from_is_err_and}
use Rattle.linda_codec.specs.Steps.{left_by, many_at}
use Rattle.linda_codec.proofs.SkipLaws.{skips_from, skips_on, skips_end, skips_done}
use Rattle.linda_codec.proofs.list.skip_list.Goals as goal

pub loop-init : goal.loop-init
loop-init g c = skips_from (g.V.Spelled.format c.args.form).read c.args.count c.args.bytes.now

pub loop-preserved : goal.loop-preserved
loop-preserved g c =
    skips_on (g.V.Spelled.format c.args.form).read c.args.count c.loop.counter c.loop.rest.now c.in_ok-rest.rest.now
    (left_by (many_at (g.V.Spelled.format c.args.form).read c.args.count c.args.bytes.now)) c.loop-test.true c.in_ok-rest.ensures c.loop.invariant

pub returns-in_err-rest : goal.returns-in_err-rest
returns-in_err-rest g c =
    let p = err_from_is_err_and c.from_residual.result c.from_residual.ensures.1 in
    rw (p.1, p.2) (
      c.in_err-rest.ensures.0,
      skips_end (g.V.Spelled.format c.args.form).read c.in_err-rest.field-0.0 c.args.count c.loop.counter c.loop.rest.now
          (left_by (many_at (g.V.Spelled.format c.args.form).read c.args.count c.args.bytes.now)) c.loop-test.true c.in_err-rest.ensures.1 c.loop.invariant,
    )

pub returns : goal.returns
returns g c = skips_done (g.V.Spelled.format c.args.form).read c.args.count c.loop.counter c.loop.rest.now
    (left_by (many_at (g.V.Spelled.format c.args.form).read c.args.count c.args.bytes.now)) c.loop-test.false c.loop.invariant
