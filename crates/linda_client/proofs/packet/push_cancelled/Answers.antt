use Rattle.std.proofs.Common.{sym, ap, ◌∙◌, ◌++◌}
use Rattle.linda_client.specs.Packets.{cancels_of}
use Rattle.linda_client.proofs.PacketLaws.{cancelled_more, cancelled_spared, one_more}
use Rattle.linda_client.proofs.packet.push_cancelled.Goals.{then-not-is_spared+in_ok-push, else-not-is_spared}
use Rattle.linda_client.proofs.packet.push_cancelled.Goals as goal

pub loop-server-preserved : goal.loop-server-preserved
loop-server-preserved c = elim c.if-not-is_spared.branch [
  | then-not-is_spared+in_ok-push w ↦
      one_more c.args.packets.now.items c.loop-server.packets.items _ (cancels_of c.loop-server.server c.args.spared c.args.ticket) _ _
      (ap (λ v. v.items) w.packets-is ∙ w.in_ok-push.ensures.items) c.loop-server.invariant
      (cancelled_more c.loop-server.server c.args.spared c.args.ticket (sym w.if-not-is_spared.ensures))
  | else-not-is_spared w ↦
      ap (λ v. v.items) w.packets-is ∙ c.loop-server.invariant
      ∙ ap (λ l. c.args.packets.now.items ++ l) (sym (cancelled_spared c.loop-server.server c.args.spared c.args.ticket (sym w.if-not-is_spared.ensures)))
]
