-- What is left is covered.
use Rattle.std.proofs.Common.{List, Option, Some, None, [], IfSome, ◌≡◌, refl, sym, subst}
use Rattle.std.proofs.Math.Logic.{∥∥₁_map}
use Rattle.linda_wire.specs.declared.reply.Reply.{Reply}
use Rattle.linda_shared_outbox.specs.Waiting.{waits_for}
use Rattle.linda_shared_outbox.specs.Replies.{emptied}
use Rattle.linda_shared_held.specs.Order.{known}
use Rattle.linda_shared_held.proofs.CoveredLaws.{boxes_but}
use Rattle.linda_shared_held.proofs.held.Held.drain.Goals as goal

nothing : (o : Option (List Reply)) → IfSome (emptied o) (λ rs. rs ≡ [])
nothing None = tt
nothing (Some rs) = refl

pub invariant_of-self : goal.invariant_of-self
invariant_of-self g c =
    let h = c.args.self.now in
    let new = c.drain.new.self in
    record {
      in_order = h.in_order;
      remembers = h.remembers;
      counted = h.counted;
      covered = ∥∥₁_map h.covered
          (λ covered. boxes_but (known h.server.before.value h.server.store h.server.down) c.args.client (λ q. waits_for h.boxes q) (λ q. waits_for new q)
          (subst (λ (o : Option (List Reply)). IfSome o (λ rs. rs ≡ [])) (sym c.drain.ensures.at) (nothing (waits_for h.boxes c.args.client)))
          c.drain.ensures.others covered);
    }
