use Rattle.linda_store_step.proofs.AskedLaws.{step_deed}
use Rattle.linda_store_step.proofs.promises.deeds_are_those_asked_for.Goals as goal

pub returns : goal.returns
returns c = step_deed
