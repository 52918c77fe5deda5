-- What a step leaves, and what is left if memory ran out, is what a store keeps.
use Rattle.linda_store_step.proofs.OrderLaws.{step_orderly, given_up_at}
use Rattle.linda_store_step.proofs.store.Store.step_in.Goals as goal

pub invariant_of-self : goal.invariant_of-self
invariant_of-self g c = (
  step_orderly c.self.inside.state c.answer_message.new.state c.self.inside.soft
      c.args.client c.self.invariant.0 c.args.message.now _ c.in-Ok.ensures.ok,
  c.in-Ok.ensures.right,
)

pub invariant_of-self-in-Err : goal.invariant_of-self-in-Err
invariant_of-self-in-Err g c = (
  given_up_at c.answer_message.new.state c.self.inside.state c.self.inside.soft c.spend.new.soft
      c.in-Err.ensures.err c.self.invariant.0 c.spend.ensures.soft,
  c.spend.ensures.hints _ _ _,
)
