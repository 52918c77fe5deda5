-- By the type's invariant the disks represent the state.
use Rattle.linda_server.proofs.CallLaws.{stands_so}
use Rattle.linda_server.proofs.durable.Durable.is_down.Goals as goal

pub returns-clause-stands : goal.returns-clause-stands
returns-clause-stands g c is_up are =
    let s = c.args.self.now in
    stands_so g.met.D.Disk.timed s.disks s.store.state are (s.kept is_up)
