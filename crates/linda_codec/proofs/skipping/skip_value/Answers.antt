use Rattle.std.proofs.Common.{◌∷◌}
use Rattle.linda_tuple.specs.declared.pattern.Pattern.TheVariants as patterns
use Rattle.linda_codec.specs.Values as format
use Rattle.linda_codec.proofs.SkipLaws.{left_made}
use Rattle.linda_codec.proofs.skipping.skip_value.Goals as goal

pub returns : goal.returns
returns c = rw (left_made ((format.atom c.args.form).read (c.args.kind ∷ c.args.bytes.now)) (λ v. patterns.Value v)) c.skip_atom_body.ensures
