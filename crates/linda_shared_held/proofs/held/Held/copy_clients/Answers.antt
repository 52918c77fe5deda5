-- What is known of the server stays.
use Rattle.std.proofs.Math.Logic.{∥∥₁_map}
use Rattle.linda_shared_held.proofs.KeptLaws.{same_still, still_order, still_covered}
use Rattle.linda_shared_held.proofs.held.Held.copy_clients.Goals as goal

pub invariant_of-self : goal.invariant_of-self
invariant_of-self g c =
    let h = c.args.self.now in
    let s = c.copy_clients.new.self in
    let still = same_still h.server s c.copy_clients.ensures.down.1 c.copy_clients.ensures.store c.copy_clients.ensures.down.0 in
    record {
      in_order = ∥∥₁_map h.in_order (still_order h.server s still);
      remembers = h.remembers;
      counted = h.counted;
      covered = ∥∥₁_map h.covered (still_covered h.server s h.boxes h.boxes still (λ st covered. covered));
    }
