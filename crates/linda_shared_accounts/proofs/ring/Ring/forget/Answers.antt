use Rattle.std.proofs.Common.{List, ◌∙◌}
use Rattle.linda_shared_accounts.specs.declared.receipt.Receipt.{Receipt}
use Rattle.linda_shared_accounts.proofs.CutLaws.{cut_ring}
use Rattle.linda_shared_accounts.proofs.ring.Ring.forget.Goals as goal

pub invariant_of-self : goal.invariant_of-self
invariant_of-self c =
    let old : List Receipt = c.self.inside.receipts.items in (
      c.drop_up_to.ensures.capacity ∙ c.self.invariant.0,
      cut_ring c.self.inside.client old c.drop_up_to.new.receipts.items c.self.invariant.1 c.drop_up_to.ensures.cut,
    )
