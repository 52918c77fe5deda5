-- What a close leaves, and what is left if memory ran out, is what a store keeps.
use Rattle.std.proofs.Common.{sym, ap, subst}
use Rattle.linda_bag.specs.SearchHints.{AreRight}
use Rattle.linda_store_step.specs.Looking.{is_held}
use Rattle.linda_store_step.proofs.OrderLaws.{close_at, given_up_at}
use Rattle.linda_store_step.proofs.store.Store.close.Goals as goal

pub invariant_of-self : goal.invariant_of-self
invariant_of-self g c = (
  close_at _ c.self.inside.state _ c.self.inside.soft c.close.new.self c.args.client c.in-Ok.sends.items (ap (λ s. s.state) c.self-inside.view_is)
      (ap (λ s. s.soft) c.self-inside.view_is) c.self.invariant.0 c.in-Ok.ensures.sends,
  c.in-Ok.ensures.right _ (subst (λ s. AreRight s.state.bag (is_held s.soft.holds) s.state.next s.hints) (sym c.self-inside.view_is) c.self.invariant.1),
)

pub invariant_of-self-in-Err : goal.invariant_of-self-in-Err
invariant_of-self-in-Err g c = (
  given_up_at _ c.self.inside.state c.self.inside.soft c.spend.new.soft
      (ap (λ s. s.state) c.self-inside.view_is) c.self.invariant.0 c.spend.ensures.soft,
  c.spend.ensures.hints _ _ _,
)
