use Rattle.std.proofs.Common.{ℕ, ap, cond, arith, ◌∙◌}
use Rattle.linda_book.specs.Entries.{Entry}
use Rattle.linda_shared_outbox.specs.Waiting.{waits_for}
use Rattle.linda_snap.specs.Rising.{first_after}
use Rattle.linda_shared_listing.proofs.TakenLaws.{one_looked}
use Rattle.linda_shared_listing.proofs.taken.count_taken.Goals as goal

pub loop-preserved : goal.loop-preserved
loop-preserved c =
    let e : ℕ × Entry = (c.in-Some.client, (c.in-Some.field-0-1-0, c.in-Some.reply.now)) in (
      one_looked c.args.book.now (waits_for c.args.boxes.now) c.args.from (first_after c.loop.last) c.loop.counter c.loop.clients c.one_if-clients.result
          e c.loop.invariant.0 c.in-Some.ensures.found (c.one_if-clients.ensures ∙ ap (λ b. cond b 1 0) (c.is_taken_by_absent.ensures c.in-Some.field-0-1-0)),
      omega (arith, c.loop.invariant.1, c.in-Some.ensures.above),
    )
