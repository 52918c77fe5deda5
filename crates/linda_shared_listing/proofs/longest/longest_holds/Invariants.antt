use Rattle.std.proofs.Common.{◌≤◌, All, length}
use Rattle.linda_shared_listing.specs.Longest.{IsHeld}
use Rattle.linda_shared_listing.proofs.longest.longest_holds.Given as goal

abbrev pub invariant-loop-hold : goal.invariant-loop-hold
invariant-loop-hold l = All (IsHeld l.bag l.holds) l.rows.items × (length l.rows.items ≤ l.hold-index)
