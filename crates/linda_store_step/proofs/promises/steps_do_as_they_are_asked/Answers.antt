use Rattle.linda_store_step.proofs.ReportLaws.{step_asked}
use Rattle.linda_store_step.proofs.promises.steps_do_as_they_are_asked.Goals as goal

pub returns : goal.returns
returns c = step_asked
