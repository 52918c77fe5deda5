-- Longest waits and holds.
use Rattle.std.specs.Prelude.{◌≡◌, ◌≤◌, ℕ, true, List, All, length}
use Rattle.std.specs.Option.{is_some}
use Rattle.std.specs.Ordering.{nat_cmp}
use Rattle.std.specs.FinMap as fin
use Rattle.linda_tuple.specs.Tuple.{Tuple}
use Rattle.linda_hold.specs.Holds.{HeldFor}
use Rattle.linda_hold.specs.Waits.{Wait, IsWait}
use Rattle.linda_shared_listing.specs.Listing.{IsRow}
use Rattle.linda_shared_listing.specs.declared.limits.TheConstants.{MOST_LOOKED}
use Rattle.linda_shared_listing.specs.declared.listed.ListedTuple.{ListedTuple}
use Rattle.linda_shared_listing.specs.declared.longest.LongestWaitsAndHolds.{LongestWaitsAndHolds}

-- The row has the tuple of its id, and the request that it is held for: it is held.
abbrev pub IsHeld : fin.FinMap nat_cmp Tuple → HeldFor → ListedTuple → Type 0
IsHeld bag holds row = IsRow bag holds row × (is_some row.held ≡ true)

-- Each of the requests waits, and asked what its row says; each of the tuples is there and held as
-- its row says. There are no more of either than are asked for, nor than a page has.
pub record IsLongest (bag : fin.FinMap nat_cmp Tuple) (held : HeldFor) (waiting : List Wait)
    (limit : ℕ) (found : LongestWaitsAndHolds) : Type 0 where
  pub waits : All (IsWait waiting) found.waits.items
  pub holds : All (IsHeld bag held) found.holds.items
  pub few_waits : length found.waits.items ≤ limit
  pub few_holds : length found.holds.items ≤ limit
  pub most_waits : length found.waits.items ≤ MOST_LOOKED
  pub most_holds : length found.holds.items ≤ MOST_LOOKED
