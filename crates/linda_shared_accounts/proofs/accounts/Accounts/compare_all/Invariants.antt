use Rattle.std.proofs.Common.{All, take}
use Rattle.linda_shared_accounts.specs.Compare.{IsToldSo}
use Rattle.linda_shared_accounts.proofs.accounts.Accounts.compare_all.Given as goal

abbrev pub invariant-loop-receipt : goal.invariant-loop-receipt
invariant-loop-receipt g l = All (IsToldSo l.self.places) (take l.receipt-index l.receipts)
