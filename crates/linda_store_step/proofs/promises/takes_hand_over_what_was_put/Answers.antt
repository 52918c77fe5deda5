use Rattle.linda_store_step.proofs.TakeLaws.{handed_over}
use Rattle.linda_store_step.proofs.promises.takes_hand_over_what_was_put.Goals as goal

pub returns : goal.returns
returns c = handed_over
