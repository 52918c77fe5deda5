use Rattle.std.proofs.Common.{◌++◌, List, ℕ, take, sym, ap, ◌∙◌, append_assoc}
use Rattle.std.specs.List.{flat_map}
use Rattle.std.proofs.lemmas.Result.{err_from_is_err_and}
use Rattle.linda_pipe.specs.Piping.{reply_line}
use Rattle.linda_pipe.proofs.reply_line.push_each.Goals as goal

-- the text from before comes first, then the lines so far, then what was pushed last
pub returns-in_err-push_reply_line-clause-err : goal.returns-in_err-push_reply_line-clause-err
returns-in_err-push_reply_line-clause-err c =
    let p = err_from_is_err_and c.from_residual.result c.from_residual.ensures.1 in
    let lines : List ℕ = flat_map reply_line (take c.loop-reply.reply-index c.args.replies.now) in
    let last = c.in_err-push_reply_line.ensures.err in
    rw p.1
    (lines ++ last.0, sym (append_assoc c.args.lines.now.items lines last.0) ∙ ap (λ (l : List ℕ). l ++ last.0) (sym c.loop-reply.invariant) ∙ last.1)
