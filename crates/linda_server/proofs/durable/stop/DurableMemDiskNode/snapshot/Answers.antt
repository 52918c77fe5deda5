-- A snapshot changes nothing that a client sees.
use Rattle.std.proofs.Common.{ap}
use Rattle.linda_server.specs.Node.{shown}
use Rattle.linda_server.proofs.NodeLaws.{snaps}
use Rattle.linda_server.proofs.durable.stop.DurableMemDiskNode.snapshot.Goals as goal

pub returns : goal.returns
returns c =
    let old = c.args.self.now in
    let new = c.snapshot.new.self in
    snaps old.before.value new.before.value old.store new.store old.down new.down old.lost.items new.lost.items
    c.snapshot.result c.snapshot.ensures.rewrites.same.0 old.none_lost new.none_lost c.snapshot.ensures.rewrites.up
    (λ e. ap (λ (s : _). shown s.before.value s.store s.down s.lost.items) (c.snapshot.ensures.full e).0) c.snapshot.ensures.falls.down
    (λ d. let same = c.snapshot.ensures.falls.stays_down d in (same.0, ap (λ (s : _). shown s.before.value s.store s.down s.lost.items) same.1))
    c.snapshot.ensures.rewrites.lost
