use Rattle.std.proofs.Common.{◌≡◌, ◌++◌, drop, map, take}
use Rattle.linda_call.specs.Ring.{after}
use Rattle.linda_call.proofs.calling.ring.mark.Given as goal

-- The puts so far, before what becomes of those that are left, are all.
abbrev pub invariant-loop-put : goal.invariant-loop-put
invariant-loop-put l = take l.put-index l.put-items ++ map (after l.news) (drop l.put-index l.put-items) ≡ map (after l.news) l.initial.put-items
