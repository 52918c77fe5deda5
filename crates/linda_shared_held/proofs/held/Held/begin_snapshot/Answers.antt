-- What is known of the server stays.
use Rattle.std.proofs.Math.Logic.{∥∥₁_map}
use Rattle.linda_shared_held.proofs.FaultLaws.{still_taken}
use Rattle.linda_shared_held.proofs.KeptLaws.{still_order, still_covered}
use Rattle.linda_shared_held.proofs.held.Held.begin_snapshot.Goals as goal

pub invariant_of-self : goal.invariant_of-self
invariant_of-self g c =
    let h = c.args.self.now in
    let s = c.begin_snapshot.new.server in
    let still = still_taken h.server s c.begin_snapshot.result c.begin_snapshot.ensures.takes.still
    c.begin_snapshot.ensures.takes.up c.begin_snapshot.ensures.takes.store in
    record {
      in_order = ∥∥₁_map h.in_order (still_order h.server s still);
      remembers = h.remembers;
      counted = h.counted;
      covered = ∥∥₁_map h.covered (still_covered h.server s h.boxes h.boxes still (λ st covered. covered));
    }
