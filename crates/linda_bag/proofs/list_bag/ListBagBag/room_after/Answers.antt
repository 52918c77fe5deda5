use Rattle.std.proofs.Common.{◌+◌, sym, ap, ◌∙◌}
use Rattle.linda_map_laws.proofs.MapLaws.{same_entries}
use Rattle.linda_bag.proofs.BytesLaws.{bytes_in}
use Rattle.linda_bag.proofs.list_bag.ListBagBag.room_after.Goals as goal

pub loop-tuple-init : goal.loop-tuple-init
loop-tuple-init c =
    let begun = c.into_iter-tuple-iterator.ensures.into_iter_gives in
    ap (λ es. c.args.room + bytes_in es) (same_entries c.args.self.now.tuples begun.5 ∙ sym begun.0)
