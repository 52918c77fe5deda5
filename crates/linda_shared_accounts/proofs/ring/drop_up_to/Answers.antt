-- Each turn drops the first of several, whose number is not above the floor.
use Rattle.std.proofs.Common.{◌-◌, List, refl, ap, ◌∙◌, arith}
use Rattle.circular_buffer.specs.Buffer.{Buffer}
use Rattle.linda_shared_accounts.specs.declared.receipt.Receipt.{Receipt}
use Rattle.linda_shared_accounts.proofs.CutLaws.{cut_none, one_less}
use Rattle.linda_shared_accounts.proofs.ring.drop_up_to.Goals as goal

pub loop-receipts-init : goal.loop-receipts-init
loop-receipts-init c = (refl, cut_none c.args.receipts.now.items, λ r there above. there)

pub loop-receipts-preserved : goal.loop-receipts-preserved
loop-receipts-preserved c =
    let rs : List Receipt = c.loop-receipts.receipts.items in
    let old = c.has_old.ensures.old c.loop-receipts-test.true in
    let left = c.truncate_front.ensures in
    let many = c.len-rest.ensures in
    let both = one_less c.args.floor (c.len-rest.result - 1) c.args.receipts.now.items rs c.truncate_front.new.self.items
    c.loop-receipts.invariant.1 c.loop-receipts.invariant.2 old.0 old.1 (omega (arith, many)) (ap (λ (b : Buffer Receipt). b.items) left) in
    (ap (λ (b : Buffer Receipt). b.capacity) left ∙ c.loop-receipts.invariant.0, both.0, both.1)
