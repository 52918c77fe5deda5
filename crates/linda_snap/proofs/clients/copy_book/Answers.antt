use Rattle.std.proofs.Common.{suc, ap, refl, ◌∙◌}
use Rattle.std.specs.FinMap.{insert}
use Rattle.linda_store_state.specs.DeedFormat.{written}
use Rattle.linda_snap.specs.Rising.{first_after}
use Rattle.linda_snap.specs.Snapshot.{kept}
use Rattle.linda_snap.proofs.ClientsLaws.{none_copied, one_copied, all_copied}
use Rattle.linda_snap.proofs.PuttingLaws.{fewer}
use Rattle.linda_snap.proofs.RisingLaws.{first_is}
use Rattle.linda_snap.proofs.clients.copy_book.Goals as goal

pub loop-client-init : goal.loop-client-init
loop-client-init c = none_copied c.args.book.now c.new-copy.result c.new-copy.ensures

pub loop-client-smaller : goal.loop-client-smaller
loop-client-smaller c =
    fewer (kept written) c.args.book.now (first_after c.loop-client.last) (suc c.in-Some.client) (c.in-Some.client, (c.in-Some.entry.0, c.in-Some.entry.1.now))
    (first_is c.args.book.now (first_after c.loop-client.last) c.in-Some.client (
      c.in-Some.entry.0,
      c.in-Some.entry.1.now,
    ) c.in-Some.ensures.found c.in-Some.ensures.above c.in-Some.ensures.least)

pub loop-client-preserved : goal.loop-client-preserved
loop-client-preserved c =
    one_copied c.args.book.now c.loop-client.copy c.keep.new.self (first_after c.loop-client.last) c.in-Some.client
    (suc c.in-Some.client) (c.in-Some.entry.0, c.in-Some.entry.1.now)
    c.loop-client.invariant c.in-Some.ensures.found c.in-Some.ensures.above c.in-Some.ensures.least
    (c.in_ok-keep.ensures.ok ∙ ap (λ r. insert c.loop-client.copy c.in-Some.client (c.in-Some.entry.0, r)) c.in_ok-reply.ensures.ok) refl

pub returns : goal.returns
returns c = all_copied c.args.book.now c.loop-client.copy (first_after c.loop-client.last) c.loop-client.invariant c.in_default.ensures.none
