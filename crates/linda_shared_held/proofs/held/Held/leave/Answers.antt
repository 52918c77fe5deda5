use Rattle.std.proofs.Common.{◌∙◌}
use Rattle.std.proofs.Math.Logic.{∥∥₁_map}
use Rattle.linda_shared_held.proofs.FloorLaws.{remembers_less}
use Rattle.linda_shared_held.proofs.KeptLaws.{still_order, still_covered}
use Rattle.linda_shared_held.proofs.held.Held.leave.Goals as goal

pub invariant_of-self : goal.invariant_of-self
invariant_of-self g c =
    let h = c.args.self.now in
    let new = c.depart.new in
    let departs = c.depart.ensures.departs in
    let still = departs.still in
    record {
      in_order = ∥∥₁_map h.in_order (still_order h.server new.server still);
      remembers = ∥∥₁_map h.remembers (remembers_less h.base.value h.recall new.recall c.args.account.client c.depart.ensures.taken);
      counted = c.depart.ensures.total ∙ h.counted;
      covered = ∥∥₁_map h.covered (still_covered h.server new.server h.boxes new.boxes still departs.covered);
    }
