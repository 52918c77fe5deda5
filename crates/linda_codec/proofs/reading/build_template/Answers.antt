use Rattle.std.proofs.Common.{arith, refl}
use Rattle.linda_codec.proofs.ValueLaws.{template_is, template_within}
use Rattle.linda_codec.proofs.reading.build_template.Goals as goal

pub from_parts-requires : goal.from_parts-requires
from_parts-requires c =
    template_within c.args.form _
    ((template_is c.args.form).takes c.args.bytes.now (
      record { tag = c.in_ok-tag.tag; fields = c.in_ok-patterns.patterns.items },
      c.in_ok-patterns.rest.now,
    ) (λ i. omega (arith, c.type_inv.bytes i))
    (rw (c.in_ok-tag.ensures.value, c.in_ok-count.ensures, c.in_ok-patterns.ensures) refl)).1
