use Rattle.std.proofs.Math.Logic.{∥∥₁_map}
use Rattle.linda_shared_held.proofs.KeptLaws.{still_order, still_covered}
use Rattle.linda_shared_held.proofs.held.Held.close.Goals as goal

pub invariant_of-self : goal.invariant_of-self
invariant_of-self g c =
    let h = c.args.self.now in
    let new = c.close_and_post.new in
    let still = c.close_and_post.ensures.still in
    record {
      in_order = ∥∥₁_map h.in_order (still_order h.server new.server still);
      remembers = h.remembers;
      counted = h.counted;
      covered = ∥∥₁_map h.covered (still_covered h.server new.server h.boxes new.boxes still c.close_and_post.ensures.covered);
    }
