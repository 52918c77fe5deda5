use Rattle.std.proofs.Math.Logic.{∥∥₁_map}
use Rattle.linda_shared_held.specs.Order.{known}
use Rattle.linda_shared_held.proofs.held.Held.drain_next.Goals as goal

pub invariant_of-self : goal.invariant_of-self
invariant_of-self g c =
    let h = c.args.self.now in
    record {
      in_order = h.in_order;
      remembers = h.remembers;
      counted = h.counted;
      covered = ∥∥₁_map h.covered (λ covered. c.drain_some.ensures.covered (known h.server.before.value h.server.store h.server.down) covered);
    }
