use Rattle.linda_store_step.proofs.ReportLaws.{step_reported}
use Rattle.linda_store_step.proofs.promises.replies_tell_the_deed.Goals as goal

pub returns : goal.returns
returns c = step_reported
