use Rattle.std.proofs.Common.{ℕ, Some, ◌++◌, append-nil, ap, subst, sym, ◌∙◌, refl, length, length-append, arith}
use Rattle.linda_book.specs.Entries.{Entry}
use Rattle.linda_store_state.specs.DeedFormat.{written}
use Rattle.linda_snap.specs.Clients.{OwesClients}
use Rattle.linda_snap.specs.Snapshot.{kept}
use Rattle.linda_snap.proofs.ClientsLaws.{one_client}
use Rattle.linda_snap.proofs.clients.Clients.spell_next.Goals as goal

pub returns-clause-goes_on : goal.returns-clause-goes_on
returns-clause-goes_on c begun bytes owes =
    let e : ℕ × Entry = (c.in-Some.client, (c.in-Some.entry.0, c.in-Some.entry.1.now)) in
    c.in_ok-push_next.ensures.owes begun bytes
    (one_client begun c.args.self.now bytes c.new-more.result.items c.push_kept.new.out.items c.args.self.now.last (Some c.in-Some.client) e
    (subst (OwesClients begun c.args.self.now) (sym (ap (λ l. bytes ++ l) c.new-more.ensures.items ∙ append-nil bytes)) owes)
    c.in-Some.ensures.found refl c.in_ok-push_kept.ensures.ok c.in_ok-push_kept.ensures.fits)

pub returns-clause-some : goal.returns-clause-some
returns-clause-some c =
    let e : ℕ × Entry = (c.in-Some.client, (c.in-Some.entry.0, c.in-Some.entry.1.now)) in
    omega (arith, c.in_ok-push_next.ensures.grows, ap length c.in_ok-push_kept.ensures.ok, length-append c.new-more.result.items ((kept written).spell e))

pub push_next-requires : goal.push_next-requires
push_next-requires c = omega (arith, c.in_ok-push_kept.ensures.short, ap length c.new-more.ensures.items)
