use Rattle.linda_store_step.proofs.AnswerLaws.{one_answer}
use Rattle.linda_store_step.proofs.laws.one_answer.Goals as goal

pub returns : goal.returns
returns c = one_answer
