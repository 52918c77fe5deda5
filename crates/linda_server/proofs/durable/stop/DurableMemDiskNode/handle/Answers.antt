-- A server that handles as a node does.
use Rattle.std.proofs.Common.{[], ◌∷◌, ap}
use Rattle.linda_store_step.specs.History.{says}
use Rattle.linda_server.specs.Node.{shown}
use Rattle.linda_server.specs.Server.{form_in_use, end_in_use}
use Rattle.linda_server.proofs.NodeLaws.{works}
use Rattle.linda_server.proofs.durable.stop.DurableMemDiskNode.handle.Goals as goal

pub returns : goal.returns
returns c =
    let old = c.args.self.now in
    let new = c.handle.new.self in
    works old.before.value new.before.value old.store new.store old.down new.down old.lost.items new.lost.items
    (form_in_use old.disks) (end_in_use old.disks) old.limit (says c.args.client c.args.message.now ∷ []) c.handle.result
    c.handle.ensures.done c.handle.ensures.up (λ e. ap (λ (s : _). shown s.before.value s.store s.down s.lost.items) (c.handle.ensures.full e).0)
    (λ e all happens. (c.handle.ensures.full e).1 all happens) c.handle.ensures.down
    (λ d. let same = c.handle.ensures.stays_down d in (same.0, ap (λ (s : _). shown s.before.value s.store s.down s.lost.items) same.1))
    c.handle.ensures.before c.handle.ensures.lost
