use Rattle.linda_shared_outbox.specs.Waiting.{waits_for}
use Rattle.linda_shared_held.proofs.CoveredLaws.{boxes_same}
use Rattle.linda_shared_held.proofs.GreetLaws.{boxes_opened}
use Rattle.linda_shared_held.proofs.held.greet.open.Goals as goal

pub returns-in-Ok-clause-covered : goal.returns-in-Ok-clause-covered
returns-in-Ok-clause-covered c st covered =
    boxes_opened st c.args.client (λ q. waits_for c.args.boxes.now q) (λ q. waits_for c.open.new.self q) c.in-Ok.ensures.at c.open.ensures.others covered

pub returns-in-Err-clause-covered : goal.returns-in-Err-clause-covered
returns-in-Err-clause-covered c st covered = boxes_same st st (λ q. waits_for c.args.boxes.now q)
    (λ q. waits_for c.open.new.self q) (λ send is. is) c.in-Err.ensures.err covered
