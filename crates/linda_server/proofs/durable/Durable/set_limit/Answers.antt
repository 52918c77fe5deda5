-- The bank in use has another limit, and all else is as it was.
use Rattle.std.proofs.Common.{refl}
use Rattle.linda_server.proofs.ReservingLaws.{stays_up}
use Rattle.linda_server.proofs.durable.Durable.set_limit.Goals as goal

pub returns-clause-life : goal.returns-clause-life
returns-clause-life g c = stays_up c.args.self.now _ c.if-self.false c.if-self.false refl
