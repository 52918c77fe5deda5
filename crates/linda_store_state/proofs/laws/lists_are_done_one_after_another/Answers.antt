use Rattle.linda_store_state.proofs.JoinLaws.{joined_done}
use Rattle.linda_store_state.proofs.laws.lists_are_done_one_after_another.Goals as goal

pub returns : goal.returns
returns c = λ st mid new ds es is first later. joined_done st is es mid new ds first later
