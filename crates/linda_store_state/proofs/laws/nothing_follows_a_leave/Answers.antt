use Rattle.linda_store_state.proofs.LeftLaws.{others_after, left_stays}
use Rattle.linda_store_state.proofs.laws.nothing_follows_a_leave.Goals as goal

pub returns-clause-others : goal.returns-clause-others
returns-clause-others c = others_after

pub returns-clause-stays : goal.returns-clause-stays
returns-clause-stays c = left_stays
