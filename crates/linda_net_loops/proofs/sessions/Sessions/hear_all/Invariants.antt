-- The room of the group stays.
use Rattle.std.proofs.Common.{◌≡◌}
use Rattle.linda_net_loops.proofs.sessions.Sessions.hear_all.Given as goal

abbrev pub invariant-loop : goal.invariant-loop
invariant-loop g l = l.served.room ≡ l.fn.served.room
