-- What is known of the server is as before, and so is what waits.
use Rattle.std.proofs.Common.{◌≡◌, ℕ, Bool, List, Option, sym, subst, ap, ◌∙◌}
use Rattle.std.proofs.Math.Logic.{∥∥₁_map}
use Rattle.linda_wire.specs.declared.reply.Reply.{Reply}
use Rattle.linda_store_state.specs.State.{State}
use Rattle.linda_store_step.specs.Store.{Store}
use Rattle.linda_shared_outbox.specs.Waiting.{waits_for}
use Rattle.linda_shared_held.specs.Covered.{BoxesCovered}
use Rattle.linda_shared_held.specs.Order.{known}
use Rattle.linda_shared_held.proofs.OrderLaws.{stays_so}
use Rattle.linda_shared_held.proofs.held.Held.set_second.Goals as goal

still_known : (before was : State) (store old : Store) (is_down was_down : Bool) → before ≡ was
    → store ≡ old → is_down ≡ was_down → known before store is_down ≡ known was old was_down
still_known before was store old is_down was_down one two three =
    ap (λ b. known b store is_down) one ∙ ap (λ s. known was s is_down) two ∙ ap (λ d. known was old d) three

pub invariant_of-self : goal.invariant_of-self
invariant_of-self g c =
    let h = c.args.self.now in
    let s = c.set_second.new.self in
    let still = still_known s.before.value h.server.before.value s.store h.server.store s.down
    h.server.down c.set_second.ensures.down.1 c.set_second.ensures.store c.set_second.ensures.down.0 in
    record {
      in_order = ∥∥₁_map h.in_order (λ so.
          stays_so h.opening.value h.base.value h.receipts.items h.count h.server.down s.down (known h.server.before.value h.server.store h.server.down)
          (known s.before.value s.store s.down) still (λ up. sym c.set_second.ensures.down.0 ∙ up) so);
      remembers = h.remembers;
      counted = h.counted;
      covered = ∥∥₁_map h.covered (λ covered. subst (λ st. BoxesCovered st (waits_for c.set_second-2.new.self)) (sym still)
          (subst (λ (w : ℕ → Option (List Reply)). BoxesCovered (known h.server.before.value h.server.store h.server.down) w)
          (sym c.set_second-2.ensures) covered));
    }
