-- What the close says of the bag as it is stored is so of the bag as contracts see it.
use Rattle.std.proofs.Common.{sym, ap, subst}
use Rattle.linda_bag.specs.SearchHints.{AreRight}
use Rattle.linda_store_step.specs.Looking.{is_held}
use Rattle.linda_store_step.proofs.step.deed.leave.Goals as goal

pub returns-clause-right : goal.returns-clause-right
returns-clause-right g c next was =
    let same = ap (λ s. s.bag) c.state.view_is in
    subst (λ bag. AreRight bag (is_held c.close.new.self.holds) next c.close.new.hints) same
    (c.in_ok-freed.ensures.right next (subst (λ bag. AreRight bag (is_held c.args.soft.now.holds) next c.args.hints.now) (sym same) was))
