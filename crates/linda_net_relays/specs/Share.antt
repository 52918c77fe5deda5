-- Shares of a turn: how much a loop takes, before it looks at others.
use Rattle.std.specs.Prelude.{ℕ, ◌+◌, ◌*◌, ◌/◌, ◌&&◌, min, max, nat_lt, nat_le, Bool, if◌then◌else◌}
use Rattle.linda_net_relays.specs.declared.share.GroupPace.{GroupPace}
use Rattle.linda_net_relays.specs.declared.share.TheConstants.{MOST_ASKS}

-- More is taken if less than 1 MiB was read and answered, or is to be answered, and Asks took less
-- than 5 milliseconds.
abbrev pub has_left : ℕ → ℕ → ℕ → ℕ → Bool
has_left read planned told micros =
    nat_lt (min (read + max planned told) 18_446_744_073_709_551_615) 1_048_576
    && nat_lt micros 5_000

-- After a group of Asks that took 5 milliseconds the next has one. It may have twice as many after
-- 256 groups that took less than a millisecond each, one after the other, and one more.
abbrev pub pace_after : GroupPace → ℕ → GroupPace
pace_after pace micros =
    if nat_le 5_000 micros then record { asks = 1; calm = 0 }
    else (if nat_le 1_000 micros then record { asks = pace.asks; calm = 0 }
    else (if nat_le 256 pace.calm then record { asks = min (pace.asks * 2) MOST_ASKS; calm = 0 }
    else record { asks = pace.asks; calm = pace.calm + 1 }))

-- A reply is expected to be as long as the last one, or half as long as was expected before it.
abbrev pub weight_after : ℕ → ℕ → ℕ
weight_after weight reply = max reply (weight / 2)
