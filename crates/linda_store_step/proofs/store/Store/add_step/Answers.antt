-- The step is the one answer more.
use Rattle.std.proofs.Common.{refl}
use Rattle.linda_store_step.proofs.store.Store.add_step.Goals as goal

pub returns-in-Ok-clause-ok : goal.returns-in-Ok-clause-ok
returns-in-Ok-clause-ok g c = record {
  answer = record { deed = c.in_ok-step.step.deed; sends = c.in_ok-step.step.sends.items; soft = c.step_in.new.self.soft };
  step = c.in_ok-step.ensures.ok;
  soft_is = refl;
  deeds = c.in-Ok.ensures.deeds;
  sends = c.in-Ok.ensures.sends;
  counts = c.in-Ok.ensures.counts;
}
