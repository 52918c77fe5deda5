use Rattle.std.proofs.Common.{◌≤◌, All, length}
use Rattle.linda_hold.specs.Waits.{IsWait}
use Rattle.linda_hold.proofs.waits.Waits.longest_of_all.Given as goal

abbrev pub invariant-loop-age : goal.invariant-loop-age
invariant-loop-age l = All (IsWait l.self) l.found.items × (length l.found.items ≤ l.age-index)
