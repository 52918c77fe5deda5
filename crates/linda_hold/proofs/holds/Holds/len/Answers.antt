use Rattle.std.proofs.Common.{ap, ◌∙◌}
use Rattle.std.specs.FinMap as map
use Rattle.linda_hold.proofs.holds.Holds.len.Goals as goal

pub returns : goal.returns
returns c = c.len.ensures ∙ ap map.len c.self.view_is
