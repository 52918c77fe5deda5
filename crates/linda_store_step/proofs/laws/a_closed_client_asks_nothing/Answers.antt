use Rattle.linda_store_step.proofs.GivenUpLaws.{closed_asks_nothing}
use Rattle.linda_store_step.proofs.laws.a_closed_client_asks_nothing.Goals as goal

pub returns : goal.returns
returns c = closed_asks_nothing
