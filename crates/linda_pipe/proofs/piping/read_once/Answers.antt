use Rattle.std.proofs.Common.{arith, length, ap, ◌∙◌}
use Rattle.std.proofs.lemmas.Result.{err_from_is_err_and}
use Rattle.linda_pipe.proofs.EndLaws.{read_failed, send_failed, send_done}
use Rattle.linda_pipe.proofs.piping.read_once.Goals as goal

pub returns-in_default-clause-turns : goal.returns-in_default-clause-turns
returns-in_default-clause-turns g c = λ first reads first_left first_written p.
    read_failed first_left _ _ first_written _ c.args.exchange.now c.in_default.ensures.bytes p

pub returns-in_err-send_replies-clause-turns : goal.returns-in_err-send_replies-clause-turns
returns-in_err-send_replies-clause-turns g c = λ first reads first_left first_written p.
    let q = err_from_is_err_and c.from_residual.result c.from_residual.ensures.1 in
    let read = c.take_read-outcome.ensures.reads first p.read p.written (g.R.Read.remaining c.read.new.self)
    (λ none. c.in-Ok.ensures.bytes.1 (c.in-Ok.ensures.bound.1 ∙ ap length none) (omega (arith, c.read.auto.buf))) p.underway in
    rw (q.1, q.2, c.in_err-send_replies.ensures.fault)
    (send_failed first_left _ (g.R.Read.remaining c.read.new.self) first_written _ _ _ c.args.exchange.now c.take_read-outcome.new.self
    c.take_read-outcome.result c.in_err-send_replies.ensures.sent.0 p c.in-Ok.ensures.bytes.0 read c.in_err-send_replies.ensures.sent.1)

pub returns-clause-turns : goal.returns-clause-turns
returns-clause-turns g c = λ first reads first_left first_written p.
    let read = c.take_read-outcome.ensures.reads first p.read p.written (g.R.Read.remaining c.read.new.self)
    (λ none. c.in-Ok.ensures.bytes.1 (c.in-Ok.ensures.bound.1 ∙ ap length none) (omega (arith, c.read.auto.buf))) p.underway in
    rw c.in_ok-send_replies.ensures.same
    (send_done first_left _ (g.R.Read.remaining c.read.new.self) first_written _ _ _ c.args.exchange.now c.take_read-outcome.new.self
    c.send_replies.new.self.replies c.take_read-outcome.result p c.in_ok-send_replies.ensures.empty
    c.in-Ok.ensures.bytes.0 c.take_read-outcome.ensures.some read
    c.in_ok-send_replies.ensures.sent)
