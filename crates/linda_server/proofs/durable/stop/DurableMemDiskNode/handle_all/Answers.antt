-- A server that handles as a node does.
use Rattle.std.proofs.Common.{ap}
use Rattle.linda_store_step.specs.History.{comings}
use Rattle.linda_server.specs.Node.{shown}
use Rattle.linda_server.specs.Server.{form_in_use, end_in_use}
use Rattle.linda_server.proofs.NodeLaws.{works}
use Rattle.linda_server.proofs.durable.stop.DurableMemDiskNode.handle_all.Goals as goal

pub returns : goal.returns
returns c =
    let old = c.args.self.now in
    let new = c.handle_all.new.self in
    works old.before.value new.before.value old.store new.store old.down new.down old.lost.items new.lost.items
    (form_in_use old.disks) (end_in_use old.disks) old.limit (comings c.args.messages.now) c.handle_all.result
    c.handle_all.ensures.done c.handle_all.ensures.up (λ e. ap (λ (s : _). shown s.before.value s.store s.down s.lost.items) (c.handle_all.ensures.full e).0)
    (λ e all happens. (c.handle_all.ensures.full e).1 all happens) c.handle_all.ensures.down
    (λ d. let same = c.handle_all.ensures.stays_down d in (same.0, ap (λ (s : _). shown s.before.value s.store s.down s.lost.items) same.1))
    c.handle_all.ensures.before c.handle_all.ensures.lost
