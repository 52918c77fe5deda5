use Rattle.linda_store_step.proofs.RepeatLaws.{answered_again}
use Rattle.linda_store_step.proofs.laws.a_repeated_message_gets_the_same_reply.Goals as goal

pub returns : goal.returns
returns c = answered_again
