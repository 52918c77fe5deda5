use Rattle.std.proofs.Common.{◌≡◌, ◌++◌, drop}
use Rattle.std.specs.Vec.Iter.{into_iter_items}
use Rattle.linda_shared_accounts.specs.Telling.{told_by}
use Rattle.linda_shared_accounts.proofs.telling.tell_all.Given as goal

-- The receipts so far, followed by those that are still to come, are all receipts.
abbrev pub invariant-loop-count : goal.invariant-loop-count
invariant-loop-count l =
    l.told.items ++ told_by (drop l.count-index l.counts) (into_iter_items l.deeds) l.rest
    ≡ told_by l.counts (into_iter_items l.fn.deeds) l.sends
