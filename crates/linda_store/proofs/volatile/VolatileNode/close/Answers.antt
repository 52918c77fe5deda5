-- The store's close is what came to the node.
use Rattle.std.proofs.Common.{[], ◌∷◌, None, sym, ap, ◌∙◌}
use Rattle.linda_store_step.specs.Answer.{only_sends}
use Rattle.linda_store_step.specs.History.{hangs_up}
use Rattle.linda_store_step.proofs.GrowthLaws.{one_only}
use Rattle.linda_store.proofs.VolatileLaws.{done, went_down}
use Rattle.linda_store.proofs.volatile.VolatileNode.close.Goals as goal

pub returns-in-Ok : goal.returns-in-Ok
returns-in-Ok c =
    done c.args.self.now.before.value c.of.result.value c.args.self.now.store c.close.new.self
    (sym c.is_spent.ensures.spent ∙ c.if-is_spent.false) (hangs_up c.args.client ∷ []) [] c.in-Ok.sends.items c.in-Ok.ensures.unspent.1
    (one_only c.args.self.now.store.state c.close.new.self.state c.args.self.now.store.soft (hangs_up c.args.client)
    (record { deed = None; sends = c.in-Ok.sends.items; soft = c.close.new.self.soft }) (ap only_sends c.in-Ok.ensures.ok, c.in-Ok.ensures.state))

pub returns-in-Err : goal.returns-in-Err
returns-in-Err c =
    went_down c.args.self.now.before.value c.of.result.value c.args.self.now.store c.close.new.self (sym c.is_spent.ensures.spent
    ∙ c.if-is_spent.false) (hangs_up c.args.client ∷ []) c.in-Err.ensures.err (c.of.ensures ∙ c.state.ensures.state)
