-- What is known of the server stays.
use Rattle.std.proofs.Math.Logic.{∥∥₁_map}
use Rattle.linda_shared_held.proofs.KeptLaws.{still_order, still_covered}
use Rattle.linda_shared_held.proofs.held.Held.renew_room.Goals as goal

pub invariant_of-self : goal.invariant_of-self
invariant_of-self g c =
    let h = c.args.self.now in
    let s = c.renew.new.server in
    let still = c.renew.ensures in
    record {
      in_order = ∥∥₁_map h.in_order (still_order h.server s still);
      remembers = h.remembers;
      counted = h.counted;
      covered = ∥∥₁_map h.covered (still_covered h.server s h.boxes h.boxes still (λ st covered. covered));
    }
