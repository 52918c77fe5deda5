use Rattle.linda_store_step.proofs.AwayLaws.{endured_away, leave_leaves}
use Rattle.linda_store_step.proofs.laws.a_client_that_left_stays_away.Goals as goal

pub returns-clause-leaves : goal.returns-clause-leaves
returns-clause-leaves c = λ st new soft k d n m a. leave_leaves st new soft k d n m a

pub returns-clause-stays : goal.returns-clause-stays
returns-clause-stays c = λ st soft xs all d. endured_away st soft d xs all
