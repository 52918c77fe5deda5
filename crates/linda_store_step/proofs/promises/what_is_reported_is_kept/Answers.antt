use Rattle.linda_store_step.proofs.ReplyLaws.{step_backed}
use Rattle.linda_store_step.proofs.promises.what_is_reported_is_kept.Goals as goal

pub returns : goal.returns
returns c = step_backed
