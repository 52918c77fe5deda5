-- What an opening leaves of two disks, the one that was chosen and the other one.
use Rattle.std.proofs.Common.{◌≡◌, ◌+◌, Bool, true, false, refl}
use Rattle.linda_disk.specs.View.{View}
use Rattle.linda_snap.specs.Choice.{chosen, ChosenLeaves}
use Rattle.linda_server.specs.Pairs.{LeavesNoOther, two, TookCalls}
use Rattle.linda_server.specs.Disks.{sides}

pub leaves_no_other : (is_right : Bool) (left right used other : View) → ChosenLeaves is_right left right used other
    → LeavesNoOther (two left right) (sides is_right used other)
leaves_no_other true left right used other leaves = let two_runs = leaves.right_one refl in record { left = two_runs.1; right = two_runs.0 }
leaves_no_other false left right used other leaves = let two_runs = leaves.left refl in record { left = two_runs.0; right = two_runs.1 }

-- Each was synced once.
pub took_calls : (is_right : Bool) (left right used other : View) → used.moment ≡ chosen is_right left.moment right.moment + 1
    → other.moment ≡ chosen is_right right.moment left.moment + 1
    → TookCalls 1 1 (two left right) (sides is_right used other)
took_calls true left right used other used_is other_is = (other_is, used_is)
took_calls false left right used other used_is other_is = (used_is, other_is)
