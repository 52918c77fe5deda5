use Rattle.linda_tuple.specs.Tuple.{Tuple}
use Rattle.linda_codec.specs.Values as format
use Rattle.linda_codec.proofs.SkipLaws.{left_made}
use Rattle.linda_codec.proofs.skipping.skip_tuple.Goals as goal

pub returns : goal.returns
returns c =
    rw (left_made {B = Tuple} ((format.tagged c.args.form (format.atom c.args.form)).read c.args.bytes.now)
    (λ p. record { tag = p.0; fields = p.1 })) c.skip_tagged.ensures
