-- What was served was done and sent, or it was not.
use Rattle.std.proofs.Common.{[], ◌∷◌}
use Rattle.linda_server.proofs.HandledLaws.{handles_well, handles_not}
use Rattle.linda_server.proofs.durable.Durable.handle.Goals as goal

pub returns-in-Ok : goal.returns-in-Ok
returns-in-Ok g c = handles_well g.met.D.Disk.timed c.args.self.now c.serve.new.self
    ((c.args.client, c.args.message.now) ∷ []) c.in-Ok.served c.into_sends.result c.into_sends.ensures c.in-Ok.ensures

pub returns-in-Err : goal.returns-in-Err
returns-in-Err g c =
    handles_not g.met.D.Disk.timed c.args.self.now c.serve.new.self ((c.args.client, c.args.message.now) ∷ []) c.in-Err.fault c.node_fault.result
    record { full = c.node_fault.ensures.full; down = c.node_fault.ensures.down } c.in-Err.ensures
