use Rattle.std.proofs.Common.{All, Contains}
use Rattle.linda_shared_accounts.specs.Agreement.{AgreesWith}
use Rattle.linda_shared_accounts.proofs.ring.Ring.agrees.Given as goal

abbrev pub invariant-loop-mine : goal.invariant-loop-mine
invariant-loop-mine l =
    (AgreesWith l.mine-iterator l.other → AgreesWith l.self.receipts l.other)
    × All (Contains l.self.receipts) l.mine-iterator
