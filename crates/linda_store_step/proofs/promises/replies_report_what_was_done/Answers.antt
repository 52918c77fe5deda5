use Rattle.linda_store_step.proofs.LastLaws.{numbers_once}
use Rattle.linda_store_step.proofs.TakeLaws.{taken_is_a_take, taken_was_put, gone_passes_on}
use Rattle.linda_store_step.proofs.promises.replies_report_what_was_done.Goals as goal

pub returns : goal.returns
returns c = record { once = numbers_once; taken = taken_is_a_take; tuple = taken_was_put; gone = gone_passes_on }
