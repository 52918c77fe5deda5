use Rattle.linda_store_step.proofs.OrderLaws.{step_orderly}
use Rattle.linda_store_step.proofs.laws.steps_keep_order.Goals as goal

pub returns : goal.returns
returns c = λ st new soft c m answered is. step_orderly st new soft c is m answered
