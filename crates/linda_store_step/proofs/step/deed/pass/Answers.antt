-- What the state says of a Pass is so of this id.
use Rattle.linda_store_step.proofs.step.deed.pass.Goals as goal

pub returns-clause-after : goal.returns-clause-after
returns-clause-after g c = c.in_ok-pass.ensures.after c.args.id
