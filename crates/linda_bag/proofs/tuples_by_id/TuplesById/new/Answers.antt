use Rattle.std.proofs.Common.{ap, ◌∙◌}
use Rattle.linda_bag.proofs.TuplesLaws.{all_behind, none_at_all}
use Rattle.linda_bag.proofs.tuples_by_id.TuplesById.new.Goals as goal

pub returns : goal.returns
returns c = ap all_behind c.new.ensures ∙ none_at_all
