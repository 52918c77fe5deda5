use Rattle.linda_store_state.proofs.OnceLaws.{taken_once}
use Rattle.linda_store_state.proofs.laws.no_tuple_is_taken_twice.Goals as goal

pub returns : goal.returns
returns c = taken_once
