use Rattle.std.proofs.Common.{◌∙◌}
use Rattle.linda_shared_held.proofs.held.Held.park_for_good.Goals as goal

pub invariant_of-self : goal.invariant_of-self
invariant_of-self g c =
    let h = c.args.self.now in
    record { in_order = h.in_order; remembers = h.remembers; counted = c.put_back_for_good.ensures.total ∙ h.counted; covered = h.covered }
