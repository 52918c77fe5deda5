use Rattle.std.proofs.Common.{◌≡◌, ◌+◌, ◌<◌, ◌++◌, drop, map, take}
use Rattle.std.specs.Prelude.{All}
use Rattle.linda_wire.specs.declared.limits.TheConstants.{NUMBER_LIMIT}
use Rattle.linda_client.proofs.client.use_each.Given as goal

-- The numbers so far, before those that follow the numbers that are left, are all; and of the numbers that
-- are left none has reached the limit.
abbrev pub invariant-loop-n : goal.invariant-loop-n
invariant-loop-n l =
    (take l.n-index l.n-items ++ map (λ n. n + 1) (drop l.n-index l.n-items) ≡ map (λ n. n + 1) l.initial.n-items)
    × All (λ n. n < NUMBER_LIMIT) (drop l.n-index l.n-items)
