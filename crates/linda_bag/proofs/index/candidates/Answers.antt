use Rattle.std.proofs.Common.{sym}
use Rattle.linda_bag.specs.Candidates.{first_value}
use Rattle.linda_bag.proofs.PlaceLaws.{bare_first}
use Rattle.linda_bag.proofs.index.candidates.Goals as goal

pub returns-in_err-group : goal.returns-in_err-group
returns-in_err-group c =
    rw (c.from_residual.ensures, sym c.tag.ensures.value, sym c.fields-patterns.ensures.value)
    (λ rows filed. bare_first (first_value c.fields-patterns.result.now) _ (c.in_err-group.ensures rows filed))

pub returns : goal.returns
returns c =
    rw (sym c.tag.ensures.value, sym c.fields-patterns.ensures.value, sym c.first_value.ensures)
    (λ rows filed. c.candidates.ensures _ (c.in_ok-group.ensures rows filed))
