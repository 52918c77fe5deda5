use Rattle.std.proofs.Common.{◌+◌, ◌≤◌}
use Rattle.linda_snap.specs.Rising.{first_after}
use Rattle.linda_shared_outbox.specs.Waiting.{waits_for}
use Rattle.linda_shared_listing.proofs.TakenLaws.{AreLooked}
use Rattle.linda_shared_listing.proofs.taken.count_taken.Given as goal

-- Those up to the last were looked at, each by one turn.
abbrev pub invariant-loop : goal.invariant-loop
invariant-loop l =
    AreLooked l.book (waits_for l.boxes) l.from (first_after l.last) l.counter l.clients
    × (l.from + l.counter ≤ first_after l.last)
