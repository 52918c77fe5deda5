use Rattle.std.proofs.Common.{◌∙◌}
use Rattle.std.proofs.Math.Logic.{∥∥₁_map}
use Rattle.linda_shared_held.proofs.KeptLaws.{still_order, still_covered}
use Rattle.linda_shared_held.proofs.held.Held.greet.Goals as goal

pub invariant_of-self : goal.invariant_of-self
invariant_of-self g c =
    let h = c.args.self.now in
    let new = c.admit.new in
    let still = c.admit.ensures.admits.still in
    record {
      in_order = ∥∥₁_map h.in_order (still_order h.server new.server still);
      remembers = h.remembers;
      counted = c.admit.ensures.total ∙ h.counted;
      covered = ∥∥₁_map h.covered (still_covered h.server new.server h.boxes new.boxes still c.admit.ensures.covered);
    }
