use Rattle.std.proofs.Common.{Some}
use Rattle.linda_store.specs.Node.{node_answer}
use Rattle.linda_store.proofs.SayLaws.{asked_said}
use Rattle.linda_store.proofs.turn.ask.Goals as goal

pub returns : goal.returns
returns g c =
    asked_said _ _ (λ _. Some c.args.client) _ _ (Some c.args.client) (node_answer c.handle-answer.result)
    _ _ _ c.handle-answer.ensures c.tell.ensures.told c.tell.ensures.goes_on
