use Rattle.std.proofs.lemmas.Result.{err_from_is_err_and}
use Rattle.linda_codec.specs.Values as format
use Rattle.linda_codec.proofs.SkipLaws.{is_fault}
use Rattle.linda_codec.proofs.reading.read_tuple.Goals as goal

pub returns-in_err-skip_tuple-in-Err-clause-value : goal.returns-in_err-skip_tuple-in-Err-clause-value
returns-in_err-skip_tuple-in-Err-clause-value c =
    let p = err_from_is_err_and c.from_residual.result c.from_residual.ensures.1 in
    rw (p.1, p.2) (λ other. is_fault ((format.tuple c.args.form).read c.args.bytes.now)
    c.in_err-skip_tuple-in-Err.field-0.0 c.in_err-skip_tuple-in-Err.ensures.1)
