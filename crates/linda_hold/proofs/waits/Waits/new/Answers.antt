use Rattle.std.proofs.Common.{ap, ◌∙◌}
use Rattle.std.specs.Map.{values_of}
use Rattle.linda_hold.specs.Numbered.{in_order}
use Rattle.linda_hold.proofs.NumberedLaws.{none_in_order}
use Rattle.linda_hold.proofs.waits.Waits.new.Goals as goal

pub returns : goal.returns
returns c = ap (λ es. values_of (in_order es)) c.with_hasher.ensures.empty ∙ ap values_of none_in_order
