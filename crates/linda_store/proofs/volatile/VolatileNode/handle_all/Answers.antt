-- If memory ran out, the node is down, and shows the state before the call.
use Rattle.std.proofs.Common.{[], sym, refl, ◌∙◌}
use Rattle.linda_store_step.specs.History.{comings}
use Rattle.linda_store.proofs.VolatileLaws.{went_down}
use Rattle.linda_store.proofs.volatile.VolatileNode.handle_all.Goals as goal

pub returns-in-Err : goal.returns-in-Err
returns-in-Err c = (
  [],
  (
    went_down c.args.self.now.before.value c.of.result.value c.args.self.now.store c.step_all.new.self (sym c.is_spent.ensures.spent
        ∙ c.if-is_spent.false) (comings c.args.messages.now) c.in-Err.ensures.err (c.of.ensures ∙ c.state.ensures.state),
    refl,
  ),
)
