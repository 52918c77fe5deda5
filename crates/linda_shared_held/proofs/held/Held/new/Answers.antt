use Rattle.std.proofs.Common.{◌∙◌, ap, sym, subst, List, Option, All, IfSome}
use Rattle.linda_wire.specs.declared.reply.Reply.{Reply}
use Rattle.linda_store_state.specs.State.{IsState}
use Rattle.linda_shared_accounts.specs.Accounts.{Accounts}
use Rattle.linda_shared_held.specs.Order.{known}
use Rattle.linda_store_step.specs.Covered.{IsCovered}
use Rattle.linda_shared_held.proofs.FloorLaws.{remembers_none}
use Rattle.linda_shared_held.proofs.OrderLaws.{begins}
use Rattle.linda_shared_held.proofs.held.Held.new.Goals as goal

pub invariant_of-result : goal.invariant_of-result
invariant_of-result g c =
    let s = c.args.server in
    record {
      in_order = ∣ begins c.of-opening.result.value c.of-base.result.value c.new.result.items s.down s.before.value s.store c.requires.up
          (c.of-opening.ensures ∙ c.state.ensures.state) (c.of-base.ensures ∙ c.state-2.ensures.state) c.new.ensures.items
          (subst IsState c.state.ensures.state c.state.ensures.ranges) ∣₁;
      remembers = ∣ remembers_none c.of-base.result.value c.new-5.result c.new-5.ensures ∣₁;
      counted = ap (λ (t : Accounts). t.total) c.new-3.ensures;
      covered = ∣ (λ q. subst (λ (o : Option (List Reply)). IfSome o (All (λ (r : Reply). IsCovered (known s.before.value s.store s.down) (q, r))))
          (sym (c.new-4.ensures q)) tt) ∣₁;
    }
