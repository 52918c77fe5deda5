use Rattle.linda_shared_held.proofs.held.Held.defer_snapshot.Goals as goal

pub invariant_of-self : goal.invariant_of-self
invariant_of-self g c =
    let h = c.args.self.now in
    record { in_order = h.in_order; remembers = h.remembers; counted = h.counted; covered = h.covered }
