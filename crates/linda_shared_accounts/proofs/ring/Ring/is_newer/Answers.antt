-- Numbers rise, so the first is the least.
use Rattle.std.proofs.Common.{◌≡◌, ◌<◌, List, sym, ap, subst, arith, ltb-true}
use Rattle.linda_shared_accounts.specs.declared.receipt.Receipt.{Receipt}
use Rattle.linda_shared_accounts.specs.Agreement.{AgreesWith}
use Rattle.linda_shared_accounts.specs.Receipts.{number_in}
use Rattle.linda_shared_accounts.specs.Ring.{Ring}
use Rattle.linda_shared_accounts.proofs.RingLaws.{all_newer}
use Rattle.linda_shared_accounts.proofs.ring.Ring.is_newer.Goals as goal

pub returns-in-Some : goal.returns-in-Some
returns-in-Some c yes_it_is =
    let rs : List Receipt = c.self.inside.receipts.items in
    let seen : rs ≡ c.args.self.now.receipts = ap (λ (r : Ring). r.receipts) c.self.view_is in
    let other = c.number.ensures in
    let first = c.number-in-Some.ensures in
    let less = ltb-true c.number.result c.number-in-Some.result yes_it_is in
    let below : number_in c.args.other.now < number_in c.in-Some.first.now = omega (arith, other, first, less) in
    subst (λ l. AgreesWith l c.args.other.now) seen
    (all_newer rs c.in-Some.first.now c.args.other.now c.self.invariant.1.rising (sym c.in-Some.ensures) below)
