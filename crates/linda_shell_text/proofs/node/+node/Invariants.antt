use Rattle.std.proofs.Common.{◌≡◌, ◌-◌, ◌+◌, ◌*◌, map, length}
use Rattle.linda_event.specs.Trees.{tree_of}
use Rattle.linda_shell_text.specs.Reading.{event_at, some_members_at, members_at}
use Rattle.linda_shell_text.proofs.MemberLoopLaws.{with_front}
use Rattle.linda_shell_text.proofs.node.+node.Given as goal

abbrev pub decreases-build_event : goal.decreases-build_event
decreases-build_event l = 3 * l.room

abbrev pub decreases-build_wrap : goal.decreases-build_wrap
decreases-build_wrap l = 3 * l.room + 1

abbrev pub decreases-build_nack : goal.decreases-build_nack
decreases-build_nack l = 3 * l.room + 1

abbrev pub decreases-build_members : goal.decreases-build_members
decreases-build_members l = 3 * l.room + 1

abbrev pub decreases-build_choice : goal.decreases-build_choice
decreases-build_choice l = 3 * l.room + 2

-- What was read so far and what is still read are what there is to read.
abbrev pub invariant-build_members-loop : goal.invariant-build_members-loop
invariant-build_members-loop l =
    with_front (map tree_of l.members.items) (some_members_at (event_at l.room) (length l.initial.rest - l.counter) l.rest)
    ≡ members_at (event_at l.room) l.bytes
