use Rattle.linda_store_step.proofs.OrderLaws.{new_store_orderly}
use Rattle.linda_store_step.proofs.store.Store.from_state.Goals as goal

pub invariant_of-result : goal.invariant_of-result
invariant_of-result g c = (new_store_orderly c.args.state c.new.result c.requires c.new.ensures, c.new-2.ensures _ _ _)
