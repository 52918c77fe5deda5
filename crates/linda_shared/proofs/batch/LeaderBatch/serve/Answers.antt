-- What was not lost has its copy.
use Rattle.std.proofs.Common.{map, sym, ap, ◌∙◌, List}
use Rattle.linda_shared_queue.specs.declared.reply_slot.ReplySlot.{ReplySlot}
use Rattle.linda_shared_queue.specs.declared.answer.Answer.{Answer}
use Rattle.linda_shared.specs.Batch.{has_copy, all_true}
use Rattle.linda_shared.proofs.BatchLaws.{all_have}
use Rattle.linda_shared.proofs.batch.LeaderBatch.serve.Goals as goal

pub returns-clause-kept : goal.returns-clause-kept
returns-clause-kept g c is =
    all_have (map has_copy c.settle.new.answers.items)
    (ap (λ (ls : List (Answer (ReplySlot g.row.L.Denot) g.row.L.Denot)). all_true (map has_copy ls)) (c.settle.ensures.kept is).0
    ∙ (sym c.settle.ensures.is ∙ is))
