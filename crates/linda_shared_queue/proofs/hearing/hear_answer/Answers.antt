use Rattle.std.proofs.Common.{sym, ◌∙◌}
use Rattle.linda_shared_queue.proofs.HearingLaws.{noted}
use Rattle.linda_shared_queue.proofs.hearing.hear_answer.Goals as goal

pub returns-in-Deed-clause-ok : goal.returns-in-Deed-clause-ok
returns-in-Deed-clause-ok g c =
    let e = c.note.ensures in
    noted c.note.result c.args.message.now c.args.account.now c.hear-told.new.self c.note.new.account c.args.answered.told
    c.in-Deed.receipt c.hear-told.ensures.account (sym c.hear-told.ensures.told.1 ∙ c.in-Deed.is) e.ok e.deed e.next
