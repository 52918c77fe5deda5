use Rattle.std.proofs.Common.{true, set, ap, ◌∙◌}
use Rattle.linda_world_laws.specs.declared.packet.Packet.{Packet}
use Rattle.linda_world_laws.proofs.MarkLaws.{set_delivered}
use Rattle.linda_world.proofs.mark.mark_delivered.Goals as goal

pub returns : goal.returns
returns c =
    ap (λ (p : Packet). set c.args.packets.now.items c.args.k (record p { delivered = true })) c.index_mut.ensures.value
    ∙ set_delivered c.args.packets.now.items c.args.k c.index_mut.result.now c.requires
