-- If there is no message, nothing was taken, and what was read was received.
use Rattle.linda_net_session.proofs.BetweenLaws.{same, as_well, keeps_waiting}
use Rattle.std.proofs.Common.{None, refl, ◌∙◌}
use Rattle.linda_net_loops.proofs.Wires.{by_nothing, next_read}
use Rattle.linda_net_loops.proofs.connection.Connection.next.Goals as goal

pub returns-then-has_more-clause-gives : goal.returns-then-has_more-clause-gives
returns-then-has_more-clause-gives g c =
    as_well c.args.self.now.session c.loop.self.session c.next.new.self c.loop.invariant.0
    (keeps_waiting _ c.loop.self.session c.next.new.self c.in_default.ensures)

pub returns-then-not-self-clause-gives : goal.returns-then-not-self-clause-gives
returns-then-not-self-clause-gives g c =
    as_well c.args.self.now.session c.loop.self.session c.next.new.self c.loop.invariant.0
    (keeps_waiting _ c.loop.self.session c.next.new.self c.in_default.ensures)

pub loop-init : goal.loop-init
loop-init g c = (same c.args.self.now.session, refl, by_nothing (g.S.Socket.wire c.args.self.now.stream) c.args.self.now.session)

pub loop-preserved : goal.loop-preserved
loop-preserved g c =
    let waits = c.in_default.ensures in (
      as_well c.args.self.now.session c.next.new.self c.read.new.self.session
          (as_well c.args.self.now.session c.loop.self.session c.next.new.self c.loop.invariant.0 (keeps_waiting _ c.loop.self.session c.next.new.self waits))
          c.read.ensures.nothing,
      c.read.ensures.account ∙ c.loop.invariant.1,
      next_read _ _ _ c.args.room _ _ _ _ None c.loop.invariant.2 waits c.read.ensures.wire,
    )
