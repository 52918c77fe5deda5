-- What is sent for a Cancel is a step, and the bag is that of the state.
use Rattle.std.proofs.Common.{sym, ap, subst}
use Rattle.linda_bag.specs.SearchHints.{AreRight}
use Rattle.linda_store_step.specs.Looking.{is_held}
use Rattle.linda_store_step.proofs.StepLaws.{cancelled_step}
use Rattle.linda_store_step.proofs.step.request.cancel.Goals as goal

pub returns-clause-ok : goal.returns-clause-ok
returns-clause-ok g c =
    cancelled_step c.args.state.now c.args.soft.now c.args.client _ c.args.ticket _ _ _ c.cancel.new.self c.requires.state (ap (λ s. s.bag) c.state.view_is)
    c.only_sends.ensures.deed c.only_sends.ensures.sends c.in_ok-cancel.ensures.sends

pub returns-clause-right : goal.returns-clause-right
returns-clause-right g c =
    let same = ap (λ s. s.bag) c.state.view_is in
    let next = c.args.state.now.next in
    subst (λ bag. AreRight bag (is_held c.cancel.new.self.holds) next c.cancel.new.hints) same
    (c.in_ok-cancel.ensures.right next (subst (λ bag. AreRight bag (is_held c.args.soft.now.holds) next c.args.hints.now) (sym same) c.requires.right))
