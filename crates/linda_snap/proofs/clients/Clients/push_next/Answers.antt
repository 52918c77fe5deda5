use Rattle.std.proofs.Common.{ℕ, Some, refl, length, ap, length-append, arith}
use Rattle.linda_book.specs.Entries.{Entry}
use Rattle.linda_store_state.specs.DeedFormat.{written}
use Rattle.linda_snap.specs.Snapshot.{kept}
use Rattle.linda_snap.proofs.ClientsLaws.{one_client}
use Rattle.linda_snap.proofs.clients.Clients.push_next.Goals as goal

pub loop-preserved : goal.loop-preserved
loop-preserved c =
    let e : ℕ × Entry = (c.in-Some.client, (c.in-Some.entry.0, c.in-Some.entry.1.now)) in (
      λ begun bytes owes.
          one_client begun c.args.self.now bytes c.loop.out.items c.push_kept.new.out.items c.loop.last (Some c.in-Some.client) e
          (c.loop.invariant.0 begun bytes owes) c.in-Some.ensures.found refl c.in_ok-push_kept.ensures.ok c.in_ok-push_kept.ensures.fits,
      omega (arith, c.loop.invariant.1, ap length c.in_ok-push_kept.ensures.ok, length-append c.loop.out.items ((kept written).spell e)),
      omega (arith, c.in_ok-push_kept.ensures.short, c.if-len-most.false),
    )
