use Rattle.std.proofs.Common.{sym, ap, ◌∙◌}
use Rattle.std.specs.FinMap as map
use Rattle.linda_bag.proofs.TuplesLaws.{len_behind}
use Rattle.linda_bag.proofs.tuples_by_id.TuplesById.len.Goals as goal

pub returns : goal.returns
returns c = c.len.ensures ∙ sym (len_behind c.self.inside.by_id) ∙ ap (λ m. map.len m) c.self.view_is
