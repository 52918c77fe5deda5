-- A client that leaves is closed.
use Rattle.std.proofs.Common.{ap}
use Rattle.linda_server.specs.Node.{shown}
use Rattle.linda_server.proofs.NodeLaws.{closes}
use Rattle.linda_server.proofs.durable.stop.DurableMemDiskNode.close.Goals as goal

pub returns : goal.returns
returns c =
    let old = c.args.self.now in
    let new = c.close.new.self in
    closes old.before.value new.before.value old.store new.store old.down new.down old.lost.items
    new.lost.items c.args.client c.close.result c.close.ensures.done c.close.ensures.same.0 c.close.ensures.up
    c.close.ensures.never_full c.close.ensures.down
    (λ d. let same = c.close.ensures.stays_down d in (same.0, ap (λ (s : _). shown s.before.value s.store s.down s.lost.items) same.1))
    c.close.ensures.before c.close.ensures.lost
