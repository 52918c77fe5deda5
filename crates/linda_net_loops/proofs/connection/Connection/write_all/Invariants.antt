-- What was written are the first bytes that waited.
use Rattle.linda_net_session.specs.Between.{Sends}
use Rattle.linda_net_loops.specs.Wire.{Carries}
use Rattle.linda_net_loops.proofs.connection.Connection.write_all.Given as goal

abbrev pub invariant-loop : goal.invariant-loop
invariant-loop g l = Sends l.fn.self.session l.self.session
    × Carries (g.S.Socket.wire l.fn.self.stream) (g.S.Socket.wire l.self.stream) l.fn.self.session l.self.session
