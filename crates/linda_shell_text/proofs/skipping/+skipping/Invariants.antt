use Rattle.std.proofs.Common.{◌≡◌, ◌-◌, ◌+◌, ◌*◌, length}
use Rattle.linda_codec.specs.Steps.{left_by}
use Rattle.linda_shell_text.specs.Reading.{event_at, some_members_at, members_at}
use Rattle.linda_shell_text.proofs.skipping.+skipping.Given as goal

abbrev pub decreases-skip_event : goal.decreases-skip_event
decreases-skip_event l = 2 * l.room

abbrev pub decreases-skip_members : goal.decreases-skip_members
decreases-skip_members l = 2 * l.room + 1

abbrev pub decreases-skip_under : goal.decreases-skip_under
decreases-skip_under l = 2 * l.room + 1

-- What is left after the members that are still to be passed is what is left after all of them.
abbrev pub invariant-skip_members-loop : goal.invariant-skip_members-loop
invariant-skip_members-loop l =
    left_by (some_members_at (event_at l.room) (length l.initial.rest - l.counter) l.rest) ≡ left_by (members_at (event_at l.room) l.bytes)
