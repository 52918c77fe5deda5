-- What is still found is its client's own.
use Rattle.std.proofs.Common.{Global, nat_cmp}
use Rattle.std.specs.Arc.{arc_value}
use Rattle.std.specs.declared.sync.Arc.{Arc}
use Rattle.std.specs.BTreeMap as tree
use Rattle.linda_shared_outbox.proofs.BoxLaws.{is_other}
use Rattle.linda_shared_queue.specs.declared.mailbox.Mailbox.{Mailbox}
use Rattle.linda_shared_queue.proofs.OwnerLaws.{owned_without}
use Rattle.linda_shared_queue.proofs.mailboxes.Mailboxes.remove.Goals as goal

pub invariant_of-self : goal.invariant_of-self
invariant_of-self g c =
    let s = c.args.self.now in
    let client = c.args.client in record {
      owned = owned_without (λ (m : Arc (Mailbox g.row.L.Denot) Global). (arc_value m).client)
          (λ q. tree.get nat_cmp s.boxes q) (λ q. tree.get nat_cmp c.remove.new.self q)
          client c.remove.ensures.updates.1 (λ q differs. c.remove.ensures.updates.2 q (is_other client q differs)) s.owned;
    }
