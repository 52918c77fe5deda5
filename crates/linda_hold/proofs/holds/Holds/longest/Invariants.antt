use Rattle.std.proofs.Common.{◌≤◌, All, length}
use Rattle.linda_hold.specs.Holds.{IsHold}
use Rattle.linda_hold.proofs.holds.Holds.longest.Given as goal

abbrev pub invariant-loop-age : goal.invariant-loop-age
invariant-loop-age l = All (IsHold l.self) l.found.items × (length l.found.items ≤ l.age-index)
