use Rattle.std.proofs.Common.{nat_cmp}
use Rattle.std.specs.BTreeMap as tree
use Rattle.slab.specs.Slab as slab
use Rattle.linda_shared_outbox.proofs.NextLaws.{open_next, shut_before, shut_after}
use Rattle.linda_shared_outbox.proofs.outboxes.Outboxes.next_after.Goals as goal

pub returns-clause-found : goal.returns-clause-found
returns-clause-found c =
    let s = c.args.self.now in
    open_next (tree.get nat_cmp s.keys) (slab.get s.boxes) s.taken c.next_key.result c.next_key.ensures.found

pub returns-clause-least : goal.returns-clause-least
returns-clause-least c =
    let s = c.args.self.now in
    shut_before (tree.get nat_cmp s.keys) (slab.get s.boxes) c.args.last c.next_key.result c.next_key.ensures.least

pub returns-clause-none : goal.returns-clause-none
returns-clause-none c =
    let s = c.args.self.now in
    shut_after (tree.get nat_cmp s.keys) (slab.get s.boxes) c.args.last c.next_key.result c.next_key.ensures.none
