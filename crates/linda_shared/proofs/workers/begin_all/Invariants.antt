use Rattle.std.proofs.Common.{◌≡◌, ◌+◌, ◌≤◌, ◌++◌, map, length, vec_len, vec_capacity}
use Rattle.linda_shared.proofs.workers.begin_all.Given as goal

-- A worker was begun for each that the loop had, and there is room for the others.
abbrev pub invariant-loop-seat : goal.invariant-loop-seat
invariant-loop-seat g l =
    (map (λ b. b.before.value) l.begun.items ≡ map (λ w. w.0) l.yielded)
    × (l.yielded ++ l.seat-iterator.rest.items ≡ l.fn.workers.items)
    × (vec_len l.begun + length l.seat-iterator.rest.items ≤ vec_capacity l.begun)
