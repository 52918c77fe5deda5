-- Nobody took the tuple among the deeds so far; and a client that takes it is the only one.
use Rattle.std.proofs.Common.{ap, Some, subst, Contains}
use Rattle.std.proofs.lemmas.List.{take_all}
use Rattle.linda_store_state.specs.declared.deed.Deed.TheVariants.{Take}
use Rattle.linda_store_step.proofs.TakeLaws.{nobody_more, same_taker}
use Rattle.linda_store_step.proofs.deeds.taker_of.Goals as goal

pub loop-deed-preserved : goal.loop-deed-preserved
loop-deed-preserved c =
    nobody_more c.args.deeds.now c.loop-deed.deed-index c.deed-item.result c.args.id c.loop-deed-test.true
    c.deed-item.is c.loop-deed.invariant c.in_default.ensures.none

pub returns-in-Some-clause-one : goal.returns-in-Some-clause-one
returns-in-Some-clause-one c once client n there =
    ap (λ t. Some t) (same_taker c.args.deeds.now c.loop-deed.deed-index c.deed-item.result c.in-Some.taker
    c.args.id c.loop-deed-test.true c.deed-item.is c.in-Some.ensures.found once client n there)

pub returns-clause-none : goal.returns-clause-none
returns-clause-none c client n there =
    c.loop-deed.invariant client n
    (subst (λ l. Contains l (Take client n c.args.id))
    (Rattle.std.proofs.Common.sym (take_all c.loop-deed.deed-index c.args.deeds.now c.loop-deed-test.false)) there)

pub returns-clause-one : goal.returns-clause-one
returns-clause-one c once client n there =
    absurd (c.loop-deed.invariant client n
    (subst (λ l. Contains l (Take client n c.args.id))
    (Rattle.std.proofs.Common.sym (take_all c.loop-deed.deed-index c.args.deeds.now c.loop-deed-test.false)) there))
