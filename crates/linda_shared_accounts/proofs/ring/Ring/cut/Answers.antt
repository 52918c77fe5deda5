use Rattle.std.proofs.Common.{List, sym, ap, subst, ◌∙◌}
use Rattle.circular_buffer.specs.Buffer.{Buffer}
use Rattle.linda_shared_accounts.specs.declared.receipt.Receipt.{Receipt}
use Rattle.linda_shared_accounts.specs.Ring.{IsRing}
use Rattle.linda_shared_accounts.proofs.CutLaws.{kept_ring}
use Rattle.linda_shared_accounts.proofs.ring.Ring.cut.Goals as goal

pub invariant_of-self : goal.invariant_of-self
invariant_of-self c =
    let old : List Receipt = c.self.inside.receipts.items in
    let left = c.truncate_front.ensures in (
      ap (λ (b : Buffer Receipt). b.capacity) left ∙ c.self.invariant.0,
      subst (IsRing c.self.inside.client) (sym (ap (λ (b : Buffer Receipt). b.items) left)) (kept_ring c.self.inside.client c.args.len old c.self.invariant.1),
    )
