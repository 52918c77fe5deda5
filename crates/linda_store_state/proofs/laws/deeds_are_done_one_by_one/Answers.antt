use Rattle.linda_store_state.proofs.ProperLaws.{none_done, more_done, never_done}
use Rattle.linda_store_state.proofs.laws.deeds_are_done_one_by_one.Goals as goal

pub returns : goal.returns
returns c = record { none = none_done; more = more_done; refused = never_done }
