use Rattle.linda_store_state.proofs.ProperLaws.{proper_state}
use Rattle.linda_store_state.proofs.laws.proper_lists_keep_the_ranges.Goals as goal

pub returns : goal.returns
returns c = proper_state
