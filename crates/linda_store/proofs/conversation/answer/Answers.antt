use Rattle.std.proofs.lemmas.Result.{err_from_is_err_and}
use Rattle.linda_store.proofs.ReplyLaws.{gave_up_replied, lost_replied}
use Rattle.linda_store.proofs.conversation.answer.Goals as goal

pub returns-in_err-write_replies-in-Ok : goal.returns-in_err-write_replies-in-Ok
returns-in_err-write_replies-in-Ok g c =
    let p = err_from_is_err_and c.from_residual.result c.from_residual.ensures.1 in
    rw (p.1, p.2) (lost_replied _ _ _ _ _ c.in-Ok.taken c.deref.result.now _ _ _ c.deref.ensures.value
    (c.in-Ok.ensures.open c.requires.not_spent c.requires.is_open) c.in_err-write_replies-in-Ok.ensures)

pub returns-in-Err : goal.returns-in-Err
returns-in-Err g c = gave_up_replied _ _ _ _ _ _ (c.in-Err.ensures.open c.requires.not_spent c.requires.is_open)
