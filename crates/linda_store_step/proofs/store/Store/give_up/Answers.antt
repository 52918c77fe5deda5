-- With nothing held and nobody waiting a store keeps its ranges.
use Rattle.std.proofs.Common.{refl}
use Rattle.linda_store_step.proofs.OrderLaws.{given_up_at}
use Rattle.linda_store_step.proofs.store.Store.give_up.Goals as goal

pub invariant_of-self : goal.invariant_of-self
invariant_of-self g c =
    (given_up_at _ c.self.inside.state c.self.inside.soft c.spend.new.soft refl c.self.invariant.0 c.spend.ensures.soft, c.spend.ensures.hints _ _ _)
