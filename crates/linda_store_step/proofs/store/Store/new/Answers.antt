use Rattle.std.proofs.Common.{sym, subst}
use Rattle.linda_store_state.specs.State.{IsState}
use Rattle.linda_store_state.proofs.StateLaws.{empty_is_state}
use Rattle.linda_store_step.proofs.OrderLaws.{new_store_orderly}
use Rattle.linda_store_step.proofs.store.Store.new.Goals as goal

pub invariant_of-result : goal.invariant_of-result
invariant_of-result g c =
    (new_store_orderly c.new.result c.new-2.result (subst IsState (sym c.new.ensures) empty_is_state) c.new-2.ensures, c.new-3.ensures _ _ _)
