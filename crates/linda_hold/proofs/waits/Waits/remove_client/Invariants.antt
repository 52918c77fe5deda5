use Rattle.std.proofs.Common.{◌≡◌, length}
use Rattle.linda_hold.specs.Waits.{without_client}
use Rattle.linda_hold.proofs.waits.Waits.remove_client.Given as goal

-- The waits of the others are those of the others at the start.
abbrev pub invariant-loop-ticket : goal.invariant-loop-ticket
invariant-loop-ticket l = without_client l.client l.self ≡ without_client l.client l.fn.self

abbrev pub decreases-loop-ticket : goal.decreases-loop-ticket
decreases-loop-ticket l = length l.self
