use Rattle.linda_store_step.specs.History.{comings}
use Rattle.linda_store_step.proofs.OutcomeLaws.{one_outcome}
use Rattle.linda_store_step.proofs.laws.a_list_has_one_outcome.Goals as goal

pub returns : goal.returns
returns c = record { messages = λ st soft ms. one_outcome st soft (comings ms); comings = one_outcome }
