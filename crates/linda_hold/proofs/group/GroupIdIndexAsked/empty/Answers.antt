use Rattle.std.proofs.Common.{is_some, ap, ◌∙◌}
use Rattle.std.specs.FinMap.{contains_key}
use Rattle.linda_map_laws.proofs.MapLaws.{get_empty}
use Rattle.linda_hold.proofs.group.GroupIdIndexAsked.empty.Goals as goal

pub returns : goal.returns
returns c = (c.empty.ensures, λ q. ap (λ m. contains_key m q) c.new.ensures ∙ ap is_some (get_empty q))
