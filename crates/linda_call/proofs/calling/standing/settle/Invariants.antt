use Rattle.std.proofs.Common.{◌≡◌, ◌++◌, drop, map, take}
use Rattle.linda_call.specs.Standings.{settled}
use Rattle.linda_call.proofs.calling.standing.settle.Given as goal

-- The standings so far, before those that follow the ones that are left, are all.
abbrev pub invariant-loop-standing : goal.invariant-loop-standing
invariant-loop-standing l =
    take l.standing-index l.standing-items ++ map settled (drop l.standing-index l.standing-items)
    ≡ map settled l.initial.standing-items
