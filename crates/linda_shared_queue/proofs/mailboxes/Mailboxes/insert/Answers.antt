use Rattle.linda_shared_queue.proofs.mailboxes.Mailboxes.insert.Goals as goal

pub invariant_of-self : goal.invariant_of-self
invariant_of-self g c = record { owned = c.put.ensures c.args.self.now.owned }
