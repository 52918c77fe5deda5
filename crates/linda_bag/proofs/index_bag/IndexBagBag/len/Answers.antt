use Rattle.std.proofs.Common.{ap, ◌∙◌}
use Rattle.std.specs.FinMap as map
use Rattle.linda_bag.proofs.index_bag.IndexBagBag.len.Goals as goal

pub returns : goal.returns
returns c = c.len.ensures ∙ ap (λ m. map.len m) c.self.view_is
