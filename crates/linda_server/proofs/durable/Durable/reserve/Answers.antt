-- As `size_other` does.
use Rattle.linda_server.proofs.HandledLaws.{rewrites_well, rewrites_not, falls_not_at_all, falls_so}
use Rattle.linda_server.proofs.durable.Durable.reserve.Goals as goal

pub returns-in-Ok-clause-rewrites : goal.returns-in-Ok-clause-rewrites
returns-in-Ok-clause-rewrites g c = rewrites_well g.met.D.Disk.timed c.args.self.now c.size_other.new.self c.in-Ok.len c.in-Ok.ensures.rewrites

pub returns-in-Ok-clause-falls : goal.returns-in-Ok-clause-falls
returns-in-Ok-clause-falls g c = falls_not_at_all g.met.D.Disk.timed c.args.self.now c.size_other.new.self c.in-Ok.len c.in-Ok.ensures.rewrites

pub returns-in-Err-clause-rewrites : goal.returns-in-Err-clause-rewrites
returns-in-Err-clause-rewrites g c =
    rewrites_not g.met.D.Disk.timed c.args.self.now c.size_other.new.self c.in-Err.fault c.node_fault.result c.in-Err.ensures.rewrites

pub returns-in-Err-clause-falls : goal.returns-in-Err-clause-falls
returns-in-Err-clause-falls g c =
    falls_so g.met.D.Disk.timed c.args.self.now c.size_other.new.self c.in-Err.fault c.node_fault.result
    record { full = c.node_fault.ensures.full; down = c.node_fault.ensures.down } c.in-Err.ensures.rewrites c.in-Err.ensures.fails
    (λ full. absurd (c.in-Err.ensures.never_full full))
