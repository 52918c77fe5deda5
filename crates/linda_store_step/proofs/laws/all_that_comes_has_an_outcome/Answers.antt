use Rattle.linda_store_step.proofs.ExistLaws.{step_of, outcome_of}
use Rattle.linda_store_step.proofs.laws.all_that_comes_has_an_outcome.Goals as goal

pub returns : goal.returns
returns c = record { message = step_of; comings = outcome_of }
