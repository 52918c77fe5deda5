use Rattle.std.proofs.Math.Logic.{∥∥₁_map}
use Rattle.linda_shared_held.proofs.KeptLaws.{still_order, still_covered}
use Rattle.linda_shared_held.proofs.held.Held.give_up.Goals as goal

pub invariant_of-self : goal.invariant_of-self
invariant_of-self g c =
    let h = c.args.self.now in
    let still = c.fall.ensures.still in
    record {
      in_order = ∥∥₁_map h.in_order (still_order h.server c.fall.new.server still);
      remembers = h.remembers;
      counted = h.counted;
      covered = ∥∥₁_map h.covered (still_covered h.server c.fall.new.server h.boxes h.boxes still (λ st covered. covered));
    }
