use Rattle.std.proofs.Common.{sym, subst}
use Rattle.std.proofs.lemmas.Result.{err_from_is_err_and}
use Rattle.linda_codec.specs.Steps.{GivesAlways}
use Rattle.linda_codec.proofs.SkipLaws.{left_tagged, tag_fault, count_fault}
use Rattle.linda_codec.proofs.skipping.skip_tagged.Goals as goal

pub returns-in_err-rest : goal.returns-in_err-rest
returns-in_err-rest g c =
    let p = err_from_is_err_and c.from_residual.result c.from_residual.ensures.1 in
    rw (p.1, p.2)
    (c.in_err-rest.ensures.0, tag_fault c.args.form (g.V.Spelled.format c.args.form) c.args.bytes.now c.in_err-rest.field-0.0 c.in_err-rest.ensures.1)

pub returns-in_err-count : goal.returns-in_err-count
returns-in_err-count g c =
    let p = err_from_is_err_and c.from_residual-in_err-count.result c.from_residual-in_err-count.ensures.1 in
    rw (p.1, p.2) (
      c.in_err-count.ensures.0,
      count_fault c.args.form (g.V.Spelled.format c.args.form) c.args.bytes.now c.in_ok-rest.rest.now
          c.in_err-count.field-0.0 c.in_ok-rest.ensures c.in_err-count.ensures.1,
    )

pub returns : goal.returns
returns g c =
    subst (λ l. GivesAlways (λ rest. rest.now) c.skip_list.result l)
    (sym (left_tagged c.args.form (g.V.Spelled.format c.args.form) c.args.bytes.now c.in_ok-rest.rest.now
    (c.in_ok-count.count, c.in_ok-count.rest.now) c.in_ok-rest.ensures c.in_ok-count.ensures)) c.skip_list.ensures
