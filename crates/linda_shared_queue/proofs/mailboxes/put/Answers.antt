-- What is found under the client is its new mailbox; without memory what was found there before.
use Rattle.std.proofs.Common.{Global, ap, sym, ◌∙◌, nat_cmp}
use Rattle.std.specs.Arc.{arc_value}
use Rattle.std.specs.declared.sync.Arc.{Arc}
use Rattle.std.specs.BTreeMap as tree
use Rattle.std.specs.Map.{lookup}
use Rattle.linda_shared_outbox.proofs.BoxLaws.{is_other}
use Rattle.linda_shared_queue.specs.declared.mailbox.Mailbox.{Mailbox}
use Rattle.linda_shared_queue.proofs.OwnerLaws.{owned_with}
use Rattle.linda_shared_queue.proofs.mailboxes.put.Goals as goal

pub returns : goal.returns
returns g c owned =
    let client = c.client-client.result in
    let updates = c.in_ok-before.ensures.updates in
    owned_with (λ (m : Arc (Mailbox g.row.L.Denot) Global). (arc_value m).client)
    (λ q. tree.get nat_cmp c.args.boxes.now q) (λ q. tree.get nat_cmp c.insert.new.self q)
    client c.args.mailbox updates.1 (sym (c.client-client.ensures ∙ ap (λ (m : Mailbox g.row.L.Denot). m.client) c.deref.ensures))
    (λ q differs. updates.2 q (is_other client q differs)) owned

pub returns-in_err-before : goal.returns-in_err-before
returns-in_err-before g c owned q m is =
    owned q m (ap (λ es. lookup (tree.is_at (nat_cmp q)) es) (sym c.in_err-before.ensures.err) ∙ is)
