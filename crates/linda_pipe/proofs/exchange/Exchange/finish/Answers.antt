use Rattle.std.proofs.Common.{◌≡◌, [], ◌++◌, rules}
use Rattle.std.proofs.lemmas.List.{nil_from_length}
use Rattle.std.proofs.lemmas.Result.{err_from_is_err_and}
use Rattle.linda_pipe.proofs.EndLaws.{over_last, last_taken, none_left}
use Rattle.linda_pipe.proofs.exchange.Exchange.finish.Goals as goal

pub returns-in_err-take_buffered_line-clause-ends : goal.returns-in_err-take_buffered_line-clause-ends
returns-in_err-take_buffered_line-clause-ends g c = λ first read sent left end u.
    let p = err_from_is_err_and c.from_residual.result c.from_residual.ensures.1 in
    rw (p.1, p.2) (over_last read (sent ++ c.take_buffered_line.new.self.replies.items) left _ end
    (c.in_err-take_buffered_line.ensures.leads first read sent u))

pub returns-in_ok-take_buffered_line-clause-ends : goal.returns-in_ok-take_buffered_line-clause-ends
returns-in_ok-take_buffered_line-clause-ends g c = λ first read sent left end u.
    last_taken g.N.Node.shown first read sent left c.take_buffered_line.new.self c.in_ok-take_buffered_line.field-0 end c.take_buffered_line.ensures.line
    (c.in_ok-take_buffered_line.ensures.leads first read sent u)

pub returns-else-not-is_empty-clause-ends : goal.returns-else-not-is_empty-clause-ends
returns-else-not-is_empty-clause-ends g c = λ first read sent left end u.
    let none : c.args.self.now.line.items ≡ [] = search (rules, nil_from_length) in
    none_left read sent left c.args.self.now end none u
