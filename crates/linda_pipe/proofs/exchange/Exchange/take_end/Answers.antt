use Rattle.std.proofs.Common.{◌≡◌, [], ◌∷◌, ◌++◌, rules}
use Rattle.std.proofs.lemmas.List.{nil_from_length}
use Rattle.std.proofs.lemmas.Result.{err_from_is_err_and}
use Rattle.linda_pipe.specs.declared.line.TheConstants.{LINE_FEED}
use Rattle.linda_pipe.proofs.StepLaws.{grown_alone, over_more}
use Rattle.linda_pipe.proofs.exchange.Exchange.take_end.Goals as goal

pub returns-then-is_empty-clause-leads : goal.returns-then-is_empty-clause-leads
returns-then-is_empty-clause-leads g c = λ first read sent u.
    let none : c.args.self.now.line.items ≡ [] = search (rules, nil_from_length) in
    c.take_line.ensures.leads first _ sent (grown_alone read sent c.args.end.now c.args.self.now c.requires.no_feed none u)

pub returns-in_err-buffer_line-clause-leads : goal.returns-in_err-buffer_line-clause-leads
returns-in_err-buffer_line-clause-leads g c = λ first read sent u.
    let p = err_from_is_err_and c.from_residual.result c.from_residual.ensures.1 in
    rw (p.1, p.2)
    (over_more (read ++ c.args.end.now) (LINE_FEED ∷ []) _ _
    (over_more read c.args.end.now _ _ (c.in_err-buffer_line.ensures.err first read sent u)))

pub returns-clause-leads : goal.returns-clause-leads
returns-clause-leads g c = λ first read sent u. c.take_buffered_line.ensures.leads first _ sent (c.in_ok-buffer_line.ensures.ok first read sent u)
