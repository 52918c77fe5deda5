use Rattle.std.proofs.Common.{◌≡◌, length, drop}
use Rattle.linda_world_laws.specs.World.{delivered}
use Rattle.linda_world.proofs.mark.mark_all_delivered.Given as goal

abbrev pub invariant-loop-k : goal.invariant-loop-k
invariant-loop-k l = (delivered (drop l.k-index l.ks) l.packets.items ≡ delivered l.fn.ks l.fn.packets.items)
    × (length l.packets.items ≡ length l.fn.packets.items)
