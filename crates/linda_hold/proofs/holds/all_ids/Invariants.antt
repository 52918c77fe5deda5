use Rattle.std.proofs.Common.{◌≡◌, ℕ, ◌<◌, ◌≤◌, ◌-◌, ◌^◌, false, is_some, nat_cmp}
use Rattle.std.specs.BTreeSet.{contains}
use Rattle.std.specs.FinMap as map
use Rattle.linda_hold.proofs.holds.all_ids.Given as goal

-- All ids below this one are in the set, and no others.
abbrev pub invariant-loop-part : goal.invariant-loop-part
invariant-loop-part l =
    ((q : ℕ) → q < l.from → contains nat_cmp l.ids q ≡ is_some (map.get l.by_id q))
    × ((q : ℕ) → l.from ≤ q → contains nat_cmp l.ids q ≡ false)

abbrev pub decreases-loop-part : goal.decreases-loop-part
decreases-loop-part l = 2 ^ 64 - l.from
