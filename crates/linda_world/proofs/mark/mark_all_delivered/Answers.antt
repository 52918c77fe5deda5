use Rattle.std.proofs.Common.{get_or, ap, ◌∙◌, length}
use Rattle.linda_world_laws.specs.World.{delivered}
use Rattle.linda_world_laws.proofs.MarkLaws.{next_mark, length_delivered}
use Rattle.linda_world.proofs.mark.mark_all_delivered.Goals as goal

pub loop-k-preserved : goal.loop-k-preserved
loop-k-preserved c = (
  next_mark c.args.ks.now c.loop-k.k-index c.loop-k.packets.items c.mark_delivered.new.packets.items
      (delivered c.args.ks.now c.args.packets.now.items) c.loop-k.invariant.0 c.mark_delivered.ensures c.loop-k-test.true,
  ap length c.mark_delivered.ensures ∙ length_delivered (get_or c.args.ks.now c.loop-k.k-index 0) c.loop-k.packets.items ∙ c.loop-k.invariant.1,
)
