use Rattle.std.proofs.Common.{◌≡◌, drop}
use Rattle.linda_call.specs.Standings.{first_unmet}
use Rattle.linda_call.proofs.calling.standing.first_unmet.Given as goal

-- The first of all is the first of those that are left.
abbrev pub invariant-loop-standing : goal.invariant-loop-standing
invariant-loop-standing l = first_unmet l.server (drop l.standing-index l.standings) ≡ first_unmet 0 l.standings
