use Rattle.std.proofs.Common.{ℕ, sym, ap, ◌∙◌, [], ◌∷◌, ◌++◌}
use Rattle.linda_client.specs.declared.ask.Ask.{Ask}
use Rattle.linda_client.specs.Packets.{asks_to_all}
use Rattle.linda_client.proofs.PacketLaws.{asked_more, one_more}
use Rattle.linda_client.proofs.packet.push_asked.Goals as goal

pub loop-server-preserved : goal.loop-server-preserved
loop-server-preserved c =
    let ask : ℕ × Ask = (c.args.ticket, c.args.ask.now) in
    one_more c.args.packets.now.items c.loop-server.packets.items _ (asks_to_all c.loop-server.server ask)
    _ _ c.in_ok-push.ensures.items c.loop-server.invariant
    (asked_more c.loop-server.server ask ∙ ap (λ m. asks_to_all c.loop-server.server ask ++ (c.loop-server.server, m) ∷ []) (sym c.in_ok-message.ensures))
