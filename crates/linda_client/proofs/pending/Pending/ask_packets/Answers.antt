use Rattle.linda_client.specs.Packets.{asks_to_all}
use Rattle.linda_client.proofs.ListLaws.{given_next}
use Rattle.linda_client.proofs.pending.Pending.ask_packets.Goals as goal

pub loop-number-preserved : goal.loop-number-preserved
loop-number-preserved c =
    given_next (asks_to_all c.args.servers) c.self.inside.first c.loop-number.number c.deref-ask-items.result.now
    c.ask-item.result _ _ _ c.loop-number-test.true c.ask-item.is c.in_ok-push_asked.ensures c.loop-number.invariant
