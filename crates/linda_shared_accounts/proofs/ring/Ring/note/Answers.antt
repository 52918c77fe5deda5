use Rattle.std.proofs.Common.{◌≡◌, ◌<◌, ◌++◌, ◌∷◌, [], List, sym, ap, subst, ◌∙◌, arith, rules}
use Rattle.circular_buffer.specs.Buffer.{Buffer, keep_last}
use Rattle.linda_shared_accounts.specs.declared.receipt.Receipt.{Receipt}
use Rattle.linda_shared_accounts.specs.Receipts.{client_in, number_in}
use Rattle.linda_shared_accounts.specs.Ring.{Ring, IsRing, last_number, with_receipt}
use Rattle.linda_shared_accounts.proofs.RingLaws.{ring_more}
use Rattle.linda_shared_accounts.proofs.ring.Ring.note.Goals as goal

pub invariant_of-self : goal.invariant_of-self
invariant_of-self c =
    let old : List Receipt = c.self.inside.receipts.items in
    let its : client_in c.args.receipt ≡ c.self.inside.client = search rules in
    let seen : last_number old ≡ last_number c.args.self.now.receipts = ap (λ (r : Ring). last_number r.receipts) c.self.view_is in
    let number = c.number.ensures in
    let last = c.last_number.ensures in
    let test = c.if-number-last_number.false in
    let above : last_number old < number_in c.args.receipt = omega (arith, seen, number, last, test) in
    let pushed = c.push_back-oldest.ensures.items in
    let same : c.push_back-oldest.new.self.items ≡ with_receipt old c.args.receipt =
    ap (λ (b : Buffer Receipt). b.items) pushed ∙ ap (λ n. keep_last n (old ++ c.args.receipt ∷ [])) c.self.invariant.0 in (
      ap (λ (b : Buffer Receipt). b.capacity) pushed ∙ c.self.invariant.0,
      subst (IsRing c.self.inside.client) (sym same)
          (ring_more c.self.inside.client old c.args.receipt c.self.invariant.1 (record { its = its; above = above })),
    )
