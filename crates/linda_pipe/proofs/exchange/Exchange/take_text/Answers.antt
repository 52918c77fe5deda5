use Rattle.std.proofs.Common.{arith, ◌∙◌, ℕ, ◌++◌, length, length-append, append_assoc, ap, sym, Ok, subst}
use Rattle.std.proofs.lemmas.Result.{err_from_is_err_and}
use Rattle.linda_pipe.specs.Lines.{ended}
use Rattle.linda_pipe.specs.Exchanges.{IsUnderway, LeadsTo}
use Rattle.linda_pipe.proofs.StepLaws.{over_more, over_line, over_all, line_found, read_line}
use Rattle.linda_pipe.proofs.exchange.Exchange.take_text.Goals as goal

pub returns-in_err-take_end-clause-leads : goal.returns-in_err-take_end-clause-leads
returns-in_err-take_end-clause-leads g c = λ first read sent u.
    let p = err_from_is_err_and c.from_residual.result c.from_residual.ensures.1 in
    rw (p.1, p.2)
    (over_line read c.loop-end.invariant.front c.in-Some.end.now c.in-Some.later.now c.loop-end.rest.now
    c.args.text.now _ _ c.loop-end.invariant.spelled c.in-Some.ensures.1
    (c.in_err-take_end.ensures.leads first _ sent (c.loop-end.invariant.leads first read sent u)))

pub returns-then-not-branch-clause-leads : goal.returns-then-not-branch-clause-leads
returns-then-not-branch-clause-leads g c = λ first read sent u.
    let front = c.loop-end.invariant.front in
    over_line read front c.in-Some.end.now c.in-Some.later.now c.loop-end.rest.now c.args.text.now _ _ c.loop-end.invariant.spelled c.in-Some.ensures.1
    (subst (λ goes_on. LeadsTo g.N.Node.shown first (ended ((read ++ front) ++ c.in-Some.end.now)) sent c.take_end.new.self (Ok goes_on)) c.if-not-branch.true
    (c.in_ok-take_end.ensures.leads first _ sent (c.loop-end.invariant.leads first read sent u)))

pub loop-end-preserved : goal.loop-end-preserved
loop-end-preserved g c =
    let front = c.loop-end.invariant.front in
    record {
      front = front ++ ended c.in-Some.end.now;
      spelled = line_found front c.in-Some.end.now c.in-Some.later.now c.loop-end.rest.now c.args.text.now c.loop-end.invariant.spelled c.in-Some.ensures.1;
      leads = λ first read sent u.
          subst (λ t. IsUnderway g.N.Node.shown first t sent c.take_end.new.self) (read_line read front c.in-Some.end.now)
          (subst (λ goes_on. LeadsTo g.N.Node.shown first (ended ((read ++ front) ++ c.in-Some.end.now)) sent c.take_end.new.self (Ok goes_on))
          c.if-not-branch.false
          (c.in_ok-take_end.ensures.leads first _ sent (c.loop-end.invariant.leads first read sent u)));
      count = omega (arith, c.in_ok-take_end.ensures.count, ap length c.in-Some.ensures.1, length-append {A = ℕ});
    }

pub returns-in_err-buffer_line-clause-leads : goal.returns-in_err-buffer_line-clause-leads
returns-in_err-buffer_line-clause-leads g c = λ first read sent u.
    let p = err_from_is_err_and c.from_residual-in_err-buffer_line.result c.from_residual-in_err-buffer_line.ensures.1 in
    let front = c.loop-end.invariant.front in
    rw (p.1, p.2)
    (over_all read front c.loop-end.rest.now c.args.text.now _ _ c.loop-end.invariant.spelled
    (over_more (read ++ front) c.loop-end.rest.now _ _
    (c.in_err-buffer_line.ensures.err first _ sent (c.loop-end.invariant.leads first read sent u))))

pub returns-clause-leads : goal.returns-clause-leads
returns-clause-leads g c = λ first read sent u.
    let front = c.loop-end.invariant.front in
    subst (λ t. IsUnderway g.N.Node.shown first t sent c.buffer_line.new.self)
    (append_assoc read front c.loop-end.rest.now ∙ ap (λ t. read ++ t) (sym c.loop-end.invariant.spelled))
    (c.in_ok-buffer_line.ensures.ok first _ sent (c.loop-end.invariant.leads first read sent u))
