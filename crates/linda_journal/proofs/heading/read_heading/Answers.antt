use Rattle.std.proofs.Common.{arith}
use Rattle.linda_journal.proofs.ImageLaws.{bank_heading}
use Rattle.linda_journal.proofs.heading.read_heading.Goals as goal

pub returns-else-generation-eq0 : goal.returns-else-generation-eq0
returns-else-generation-eq0 c =
    bank_heading c.in-Some-behind_magic.form c.args.bytes.now c.in-Some.rest.now c.in-Some-behind_magic.rest.now c.in-Ok.generation c.in-Ok.field-0-1.now
    (λ i. omega (arith, c.type_inv.bytes i)) c.in-Some.ensures.opened c.in-Some-behind_magic.ensures.found c.in-Ok.ensures
    (grind (arith, c.if-bytes-lt-MIN_BYTES.false)) c.if-generation-eq0.false
