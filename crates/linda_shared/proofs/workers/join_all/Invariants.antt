use Rattle.std.proofs.Common.{◌≡◌, ◌+◌, ◌≤◌, ◌++◌, map, length, vec_len, vec_capacity}
use Rattle.linda_shared.specs.Working.{AllHaveWorked}
use Rattle.linda_shared.proofs.workers.join_all.Given as goal

-- The seats of those that the loop had are back, and there is room for the others.
abbrev pub invariant-loop-one : goal.invariant-loop-one
invariant-loop-one g l =
    AllHaveWorked (map (λ b. b.before.value) l.yielded) l.worked.seats.items
    × (l.yielded ++ l.one-iterator.rest.items ≡ l.fn.begun.items)
    × (vec_len l.worked.seats + length l.one-iterator.rest.items ≤ vec_capacity l.worked.seats)
