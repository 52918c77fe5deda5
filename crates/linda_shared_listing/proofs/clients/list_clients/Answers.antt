use Rattle.std.proofs.Common.{◌≡◌, ℕ, Option, Some, None, arith, subst}
use Rattle.std.specs.Prelude.{IfSome, max, min}
use Rattle.linda_shared_outbox.specs.Waiting.{waits_for}
use Rattle.linda_shared_listing.specs.declared.limits.TheConstants.{MOST_LOOKED}
use Rattle.linda_shared_listing.specs.declared.listed.ClientPage.{ClientPage}
use Rattle.linda_shared_listing.proofs.ClientLaws.{AreListed, one_listed, page_listed}
use Rattle.linda_shared_listing.proofs.clients.list_clients.Goals as goal

pub loop-preserved : goal.loop-preserved
loop-preserved c =
    one_listed c.args.book.now (waits_for c.args.boxes.now) c.args.holds.now c.args.waits.now c.args.from c.loop.counter
    c.in-Some.client c.listed_after-next-in-loop.result c.loop.rows.items c.push.new.self.items c.client_of.result
    (subst (λ (n : Option ℕ). AreListed c.args.book.now (waits_for c.args.boxes.now) c.args.holds.now
    c.args.waits.now c.args.from n c.loop.counter c.loop.rows.items) c.in-Some.is c.loop.invariant)
    c.in_ok-push.ensures.items c.client_of.ensures c.listed_after-next-in-loop.ensures

all_full : (next : Option ℕ) (count most : ℕ) → count ≡ most → IfSome next (λ n. count ≡ most)
all_full None count most is = tt
all_full (Some n) count most is = is

pub returns : goal.returns
returns c =
    let page : ClientPage = record { rows = c.loop.rows; next = c.loop.next } in
    let most : c.loop.counter ≡ min (max c.args.limit 1) MOST_LOOKED =
    omega (arith, c.loop-test.false, c.loop.auto.counter-end, c.min-most.ensures, c.max.ensures) in
    page_listed c.args.book.now (waits_for c.args.boxes.now) c.args.holds.now c.args.waits.now c.args.from c.args.limit c.loop.counter page c.loop.invariant
    (omega (arith, most)) (all_full c.loop.next c.loop.counter (min (max c.args.limit 1) MOST_LOOKED) most)
