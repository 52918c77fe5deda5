-- For how long something is so at a connection. Moments are those of a loop's time, in nanoseconds.
use Rattle.std.specs.Prelude.{ℕ, ◌+◌, ◌-◌, ◌*◌, ◌/◌, min, nat_le, Bool, false, Option, Some, None}

-- Of what went by between two looks at the clock a second counts at most.
abbrev pub counted : ℕ → ℕ
counted gone = min gone 1_000_000_000

-- Connections are looked at once a second went by since the last time.
abbrev pub is_due : ℕ → ℕ → Bool
is_due looked now = nat_le 1_000_000_000 (now - looked)

-- How many milliseconds there are until then, rounded up.
abbrev pub millis_left : ℕ → ℕ → ℕ
millis_left looked now = (1_000_000_000 - (now - looked) + 999_999) / 1_000_000

-- Something was so for so many whole seconds: from the moment at which that was seen to one before
-- which all that might have ended it is known.
abbrev pub is_over : ℕ → ℕ → Option ℕ → Bool
is_over seconds until None = false
is_over seconds until (Some since) = nat_le (seconds * 1_000_000_000) (until - since)

-- Since when it was seen, once it is seen now.
abbrev pub since : ℕ → Option ℕ → Option ℕ
since now None = Some now
since now (Some before) = Some before
