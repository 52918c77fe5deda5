-- The store's step is what came to the node.
use Rattle.std.proofs.Common.{[], ◌∷◌, option_to_list, sym, refl, ◌∙◌}
use Rattle.linda_store_step.specs.History.{says}
use Rattle.linda_store_step.proofs.GrowthLaws.{one_only}
use Rattle.linda_store.proofs.VolatileLaws.{done, went_down}
use Rattle.linda_store.proofs.volatile.VolatileNode.handle.Goals as goal

pub returns-in-Ok : goal.returns-in-Ok
returns-in-Ok c = (
  option_to_list c.in-Ok.step.deed,
  done c.args.self.now.before.value c.of.result.value c.args.self.now.store c.step.new.self
      (sym c.is_spent.ensures.spent ∙ c.if-is_spent.false) (says c.args.client c.args.message.now ∷ []) _ _ c.in-Ok.ensures.unspent.1
      (one_only c.args.self.now.store.state c.step.new.self.state c.args.self.now.store.soft (says c.args.client c.args.message.now) _ c.in-Ok.ensures.ok),
)

pub returns-in-Err : goal.returns-in-Err
returns-in-Err c = (
  [],
  (
    went_down c.args.self.now.before.value c.of.result.value c.args.self.now.store c.step.new.self (sym c.is_spent.ensures.spent
        ∙ c.if-is_spent.false) (says c.args.client c.args.message.now ∷ []) c.in-Err.ensures.err.1 (c.of.ensures ∙ c.state.ensures.state),
    refl,
  ),
)
