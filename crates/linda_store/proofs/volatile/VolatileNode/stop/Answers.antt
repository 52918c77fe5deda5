-- All of the work is done, and then nothing is held and nobody waits.
use Rattle.std.proofs.Common.{sym, ◌∙◌}
use Rattle.linda_store.specs.Node.{in_hand}
use Rattle.linda_store.proofs.VolatileLaws.{opened, went_down}
use Rattle.linda_store.proofs.volatile.VolatileNode.stop.Goals as goal

pub returns-in-Ok : goal.returns-in-Ok
returns-in-Ok c =
    opened c.args.self.now.before.value c.of.result.value c.args.self.now.store c.forget.new.self (sym c.is_spent.ensures.spent
    ∙ c.if-is_spent.false) (in_hand c.args.work) c.do_work.new.store _ _ c.is_spent.ensures.orderly c.in-Ok.ensures.unspent
    c.in-Ok.ensures.ok c.forget.ensures

pub returns-in-Err : goal.returns-in-Err
returns-in-Err c =
    went_down c.args.self.now.before.value c.of.result.value c.args.self.now.store c.do_work.new.store
    (sym c.is_spent.ensures.spent ∙ c.if-is_spent.false) (in_hand c.args.work) c.in-Err.ensures.err (c.of.ensures ∙ c.state.ensures.state)
