use Rattle.std.proofs.Common.{◌≡◌, length}
use Rattle.linda_shared_accounts.specs.Ring.{IsCut, KeepsAbove}
use Rattle.linda_shared_accounts.proofs.ring.drop_up_to.Given as goal

abbrev pub invariant-loop-receipts : goal.invariant-loop-receipts
invariant-loop-receipts l =
    (l.receipts.capacity ≡ l.fn.receipts.capacity)
    × IsCut l.fn.receipts.items l.receipts.items
    × KeepsAbove l.floor l.fn.receipts.items l.receipts.items

abbrev pub decreases-loop-receipts : goal.decreases-loop-receipts
decreases-loop-receipts l = length l.receipts.items
