use Rattle.std.proofs.Common.{sym, ◌∙◌, nat_cmp}
use Rattle.std.specs.BTreeMap as tree
use Rattle.slab.specs.Slab as slab
use Rattle.linda_shared_outbox.specs.Boxes.{box_of}
use Rattle.linda_shared_outbox.proofs.WaitLaws.{is_some_replies}
use Rattle.linda_shared_outbox.proofs.BoxLaws.{some_box}
use Rattle.linda_shared_outbox.proofs.outboxes.Outboxes.has.Goals as goal

pub returns : goal.returns
returns c =
    let s = c.args.self.now in
    c.contains_key.ensures ∙ sym (is_some_replies (box_of s.keys s.boxes c.args.client)
    ∙ some_box (λ k. slab.get s.boxes k) (tree.get nat_cmp s.keys c.args.client) (s.taken c.args.client))
