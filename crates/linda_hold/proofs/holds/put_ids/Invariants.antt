use Rattle.std.proofs.Common.{◌≡◌, ℕ, ◌||◌, is_some, take, nat_cmp}
use Rattle.std.specs.BTreeSet.{contains}
use Rattle.linda_rising.specs.Rows.{at}
use Rattle.linda_hold.proofs.holds.put_ids.Given as goal

-- The ids of the rows so far were put.
abbrev pub invariant-loop-row : goal.invariant-loop-row
invariant-loop-row l =
    (q : ℕ) → contains nat_cmp l.ids q ≡ (contains nat_cmp l.fn.ids q || is_some (at (take l.row-index l.rows) q))
