use Rattle.std.proofs.Common.{◌≡◌, ◌+◌, suc, take, take_all, sym, ap, ◌∙◌, arith}
use Rattle.std.proofs.Math.Seq.{take-suc}
use Rattle.linda_hold.specs.Waits.{is_reader, without}
use Rattle.linda_hold.proofs.ListLaws.{without_all, without_more, without_passing}
use Rattle.linda_hold.proofs.waits.Waits.take_awaiting.Goals as goal

pub loop-request-preserved : goal.loop-request-preserved
loop-request-preserved c =
    let items = c.deref-request-items.result.now in
    let i = c.loop-request.request-index in
    let more : i + 1 ≡ suc i = omega arith in
    c.remove.ensures
    ∙ ap (without _) c.loop-request.invariant
    ∙ sym (without_more (take i items) _ c.args.self.now)
    ∙ ap (λ requests. without_all requests c.args.self.now) (sym (ap (λ n. take n items) more ∙ take-suc items i _ c.loop-request-test.true))

pub returns-clause-left : goal.returns-clause-left
returns-clause-left c =
    let items = c.deref-request-items.result.now in
    c.loop-request.invariant
    ∙ ap (λ requests. without_all requests c.args.self.now) (take_all c.loop-request.request-index items c.loop-request-test.false
    ∙ c.deref-request-items.ensures.value ∙ c.in_ok-found.ensures.readers)
    ∙ without_passing (is_reader c.args.tuple.now) c.args.self.now c.in_ok-found.ensures.distinct
