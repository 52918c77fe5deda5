-- A deed of another is left out; the first of the client's that is met is its last.
use Rattle.std.proofs.Common.{sym, ◌∙◌, arith}
use Rattle.linda_store_step.proofs.LastLaws.{last_of_own, last_of_other, last_of_none}
use Rattle.linda_store_step.proofs.deeds.last_number.Goals as goal

pub returns-then-client : goal.returns-then-client
returns-then-client c =
    c.number.ensures
    ∙ sym (last_of_own c.args.deeds.now c.loop-left.left c.index-deeds-left.result c.args.client
    c.loop-left-test.true c.loop-left.invariant.0 c.index-deeds-left.is (sym c.client.ensures ∙ c.if-client.true))
    ∙ c.loop-left.invariant.1

pub loop-left-preserved : goal.loop-left-preserved
loop-left-preserved c =
    let within = c.loop-left.invariant.0 in (
      omega (arith, within),
      sym (last_of_other c.args.deeds.now c.loop-left.left c.index-deeds-left.result c.args.client c.loop-left-test.true
          c.loop-left.invariant.0 c.index-deeds-left.is (λ mine. c.if-client.false (c.client.ensures ∙ mine)))
          ∙ c.loop-left.invariant.1,
    )

pub returns : goal.returns
returns c = sym (last_of_none c.args.deeds.now c.loop-left.left c.args.client c.loop-left-test.false) ∙ c.loop-left.invariant.1
