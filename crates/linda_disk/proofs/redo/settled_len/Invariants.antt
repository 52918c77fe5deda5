-- The calls that were passed over are no syncs.
use Rattle.std.proofs.Common.{◌≡◌, ◌≤◌, ℕ, List, length, take, drop, reverse}
use Rattle.linda_disk.specs.DiskHistory.{synced_from, fill_all, filled_from}
use Rattle.linda_disk.proofs.redo.settled_len.Given as goal

abbrev pub invariant-loop-len : goal.invariant-loop-len
invariant-loop-len l = record {
  within : l.len ≤ length l.calls;
  synced : (first : List ℕ)
      → synced_from first (reverse (take l.len l.calls)) ≡ synced_from first (reverse l.calls);
  filled : (b : ℕ) (first : List ℕ)
      → fill_all b (drop l.len l.calls) (filled_from b first (reverse (take l.len l.calls)))
      ≡ filled_from b first (reverse l.calls);
}

abbrev pub decreases-loop-len : goal.decreases-loop-len
decreases-loop-len l = l.len
