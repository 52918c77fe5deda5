-- What was served makes the history.
use Rattle.linda_store_step.proofs.ServedLaws.{served_happens}
use Rattle.linda_store_step.proofs.store.Store.step_all.Goals as goal

pub returns-in-Ok-clause-ok : goal.returns-in-Ok-clause-ok
returns-in-Ok-clause-ok g c =
    let new = c.step_each.new.self in
    served_happens c.args.self.now.state c.args.self.now.soft c.args.messages.now c.in-Ok.served new.state new.soft c.in-Ok.ensures.ok
