use Rattle.std.proofs.Common.{◌∙◌}
use Rattle.std.proofs.Math.Logic.{∥∥₁_map}
use Rattle.linda_shared_held.proofs.FloorLaws.{remembers_less}
use Rattle.linda_shared_held.proofs.held.Held.park.Goals as goal

pub invariant_of-self : goal.invariant_of-self
invariant_of-self g c =
    let h = c.args.self.now in
    record {
      in_order = h.in_order;
      remembers =
          ∥∥₁_map h.remembers (remembers_less h.base.value h.recall c.put_back.new.recall c.args.account.client c.put_back.ensures.taken);
      counted = c.put_back.ensures.total ∙ h.counted;
      covered = h.covered;
    }
