-- As long as it reads nothing is taken, and what was read was received.
use Rattle.std.proofs.Common.{◌≡◌}
use Rattle.linda_net_session.specs.Between.{TakesNothing}
use Rattle.linda_net_loops.specs.Wire.{Carries}
use Rattle.linda_net_loops.proofs.connection.Connection.next.Given as goal

abbrev pub invariant-loop : goal.invariant-loop
invariant-loop g l =
    TakesNothing l.fn.self.session l.self.session × (l.self.account ≡ l.fn.self.account)
    × Carries (g.S.Socket.wire l.fn.self.stream) (g.S.Socket.wire l.self.stream) l.fn.self.session l.self.session
