use Rattle.std.proofs.Common.{◌≡◌, ◌∙◌, None, sym}
use Rattle.linda_store.specs.Node.{node_answer}
use Rattle.linda_store.specs.Turn.{greeted_by}
use Rattle.linda_store.proofs.SayLaws.{asked_said}
use Rattle.linda_store.proofs.turn.greet.Goals as goal
use Rattle.linda_store.proofs.turn.greet.Goals.{then-is_welcomed, else-is_welcomed}

greeted_is : (g : _) (c : goal.After-tell g) → greeted_by c.args.client (node_answer c.handle-answer.result) ≡ c.if-is_welcomed.greeted
greeted_is g c =
    elim c.if-is_welcomed.branch [
      | then-is_welcomed w ↦ w.if-is_welcomed.ensures
          ∙ sym w.greeted-is
      | else-is_welcomed w ↦ w.if-is_welcomed.ensures ∙ sym (w.greeted-is ∙ c.requires)
    ]

pub returns : goal.returns
returns g c =
    rw (← greeted_is g c) (asked_said _ _ (greeted_by c.args.client) _ _ None
    (node_answer c.handle-answer.result) _ _ _ c.handle-answer.ensures c.tell.ensures.told c.tell.ensures.goes_on)
