-- Room that is written ahead of the records of a bank.
use Rattle.std.specs.Prelude.{ℕ, ◌/◌, max, min}
use Rattle.linda_net_watch.specs.declared.preallocation.TheConstants.{LEAST_ROOM, MOST_ROOM, PART}

-- How many bytes are written ahead of a bank of which so many are taken: a sixteenth of them, one
-- MiB at least and four at most.
abbrev pub room_for : ℕ → ℕ
room_for used = max LEAST_ROOM (min MOST_ROOM (used / PART))
