use Rattle.std.proofs.Common.{◌+◌, ◌++◌, sym, ap, ◌∙◌}
use Rattle.linda_client.specs.Packets.{cancels_of}
use Rattle.linda_client.proofs.PacketLaws.{numbers_more}
use Rattle.linda_client.proofs.pending.Pending.cancels.Goals as goal

pub loop-number-preserved : goal.loop-number-preserved
loop-number-preserved c =
    c.in_ok-push_cancelled.ensures
    ∙ ap (λ l. l ++ cancels_of c.args.servers c.args.spared (c.self.inside.first + c.loop-number.number)) c.loop-number.invariant
    ∙ sym (numbers_more (cancels_of c.args.servers c.args.spared) c.self.inside.first c.loop-number.number)
