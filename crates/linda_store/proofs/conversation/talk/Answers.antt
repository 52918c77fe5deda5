use Rattle.std.proofs.lemmas.Result.{err_from_is_err_and}
use Rattle.linda_store.proofs.ConverseLaws.{talking_begins, read_failed, goes_on, frame_ended, down_ended, piece_failed, piece_some}
use Rattle.linda_store.proofs.conversation.talk.Goals as goal

pub loop-init : goal.loop-init
loop-init g c = talking_begins _ _ _ _ c.requires

pub returns-in_err-len : goal.returns-in_err-len
returns-in_err-len g c =
    let p = err_from_is_err_and c.from_residual.result c.from_residual.ensures.1 in
    let kept = c.in_err-len.ensures.err in
    rw (p.1, p.2, kept.0) (read_failed _ _ _ _ _ _ _ _ _ c.loop.invariant kept.1)

pub returns-in_err-answer : goal.returns-in_err-answer
returns-in_err-answer g c =
    let p = err_from_is_err_and c.from_residual-in_err-answer.result c.from_residual-in_err-answer.ensures.1 in
    let read = c.in_ok-len.ensures.ok in
    rw (p.1, p.2) (piece_failed _ _ _ _ _ _ _ _ _ _ _ _ _ _ c.loop.invariant read.1 c.in_err-answer.ensures)

pub returns-in-Malformed : goal.returns-in-Malformed
returns-in-Malformed g c =
    let read = c.in_ok-len.ensures.ok in
    frame_ended _ _ _ _ _ _ _ _ _ _ _ _ _ _ c.loop.invariant read.1 (rw c.in-Malformed.is at c.in_ok-answer.ensures)

pub returns-in-Down : goal.returns-in-Down
returns-in-Down g c =
    let read = c.in_ok-len.ensures.ok in
    down_ended _ _ _ _ _ _ _ _ _ _ _ _ _ c.loop.invariant read.1 (rw c.in-Down.is at c.in_ok-answer.ensures)

pub loop-preserved : goal.loop-preserved
loop-preserved g c =
    let read = c.in_ok-len.ensures.ok in
    goes_on _ _ _ _ _ _ _ _ _ _ _ _ _ c.loop.invariant read.1 (rw c.in-Open.is at c.in_ok-answer.ensures) (piece_some _ _ read.0 c.if-len-eq0.false)
