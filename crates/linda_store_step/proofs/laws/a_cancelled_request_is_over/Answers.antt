use Rattle.linda_store_step.proofs.GivenUpLaws.{over_when_cancelled}
use Rattle.linda_store_step.proofs.laws.a_cancelled_request_is_over.Goals as goal

pub returns : goal.returns
returns c = over_when_cancelled
