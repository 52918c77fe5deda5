use Rattle.linda_client.proofs.ListLaws.{numbered_next}
use Rattle.linda_client.proofs.leaves.Leaves.new.Goals as goal

pub loop-server-preserved : goal.loop-server-preserved
loop-server-preserved c = numbered_next c.loop-server.server c.args.next.now 0 _ _ _ c.loop-server-test.true c.in_ok-push.ensures.items c.loop-server.invariant
