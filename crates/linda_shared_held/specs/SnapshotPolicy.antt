-- Policy of snapshots: when one pays for itself.
use Rattle.std.specs.Prelude.{ℕ, ◌+◌, ◌-◌, ◌^◌, min, Bool, true, false, ◌&&◌, ◌||◌, nat_le, nat_lt}
use Rattle.linda_server.specs.declared.limits.TheConstants.{SNAPSHOT_RECORDS}
use Rattle.linda_shared_held.specs.declared.limits.TheConstants.{SNAPSHOT_BYTES}
use Rattle.linda_shared_held.specs.declared.snapshot_policy.SnapshotPolicy.{SnapshotPolicy}

-- There are records or bytes enough, and they have at least as many bytes as the bank had when it
-- was new, or half of the limit is taken.
abbrev pub pays : ℕ → ℕ → ℕ → ℕ → ℕ → Bool
pays base start records used limit =
    (nat_le SNAPSHOT_RECORDS records || nat_le SNAPSHOT_BYTES (used - start))
    && (nat_le base (used - base) || nat_le (limit - used) used)

-- It pays, or the bank is not in the form of new banks, and there are records enough or bytes
-- enough since one was put off or refused; or a deed was refused for room, and there is a record
-- that the last try did not find.
abbrev pub is_due : Bool → ℕ → ℕ → ℕ → ℕ → ℕ → Bool → ℕ → ℕ → ℕ → Bool
is_due old base start not_before not_below tried lacks records used limit =
    ((nat_le not_before records || nat_le not_below used)
    && (old || pays base start records used limit))
    || (lacks && nat_lt tried records)

-- a number with more, as far as that can be counted
abbrev pub raised : ℕ → ℕ → ℕ
raised one other = min (one + other) (2 ^ 64 - 1)

-- the policy of a bank that took so many bytes when it was new, and of which so many are not
-- counted
abbrev pub policy_from : ℕ → ℕ → SnapshotPolicy
policy_from base start =
    record {
      base = base;
      start = start;
      not_before = 0;
      not_below = 0;
      tried = 0;
      lacks_room = false;
    }

-- the policy once a snapshot was tried at so many records and bytes: it waits for 1,024 records
-- more, or for 32 MiB, whichever come first
abbrev pub tried_at : ℕ → ℕ → SnapshotPolicy → SnapshotPolicy
tried_at records used p =
    record {
      base = p.base;
      start = p.start;
      not_before = raised records SNAPSHOT_RECORDS;
      not_below = raised used SNAPSHOT_BYTES;
      tried = records;
      lacks_room = false;
    }

-- the policy once a snapshot was put off at so many records and bytes: it waits for 1,024 records
-- more, or for `room` bytes and no more than 32 MiB, whichever come first. A deed that is refused
-- for room asks for one all the same.
abbrev pub deferred_at : ℕ → ℕ → ℕ → SnapshotPolicy → SnapshotPolicy
deferred_at records used room p =
    record {
      base = p.base;
      start = p.start;
      not_before = raised records SNAPSHOT_RECORDS;
      not_below = raised used (min room SNAPSHOT_BYTES);
      tried = p.tried;
      lacks_room = p.lacks_room;
    }

-- the policy once a deed was refused for room
abbrev pub refused_for_room : SnapshotPolicy → SnapshotPolicy
refused_for_room p =
    record {
      base = p.base;
      start = p.start;
      not_before = p.not_before;
      not_below = p.not_below;
      tried = p.tried;
      lacks_room = true;
    }
