use Rattle.linda_tuple.specs.Template.{Template}
use Rattle.linda_codec.specs.Values as format
use Rattle.linda_codec.proofs.SkipLaws.{left_made}
use Rattle.linda_codec.proofs.skipping.skip_template.Goals as goal

pub returns : goal.returns
returns c =
    rw (left_made {B = Template} ((format.tagged c.args.form (format.pattern c.args.form)).read c.args.bytes.now)
    (λ p. record { tag = p.0; fields = p.1 })) c.skip_tagged.ensures
