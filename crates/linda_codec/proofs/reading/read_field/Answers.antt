use Rattle.linda_codec.proofs.LoopLaws.{one_is}
use Rattle.linda_codec.specs.Values as format
use Rattle.linda_codec.proofs.reading.read_field.Goals as goal

pub returns : goal.returns
returns c = one_is (λ x. x.0) (λ x. x.1.now) (format.atom c.args.form).read c.args.bytes.now c.read_atom.result c.read_atom.ensures.value
