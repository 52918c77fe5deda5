use Rattle.std.proofs.Common.{◌≡◌, List, Option, [], IfSome, refl, sym, subst}
use Rattle.linda_wire.specs.declared.reply.Reply.{Reply}
use Rattle.linda_shared_outbox.specs.Waiting.{waits_for}
use Rattle.linda_shared_held.proofs.CoveredLaws.{boxes_but, boxes_same}
use Rattle.linda_shared_held.proofs.held.drain.drain_some.Goals as goal

pub returns-in-Some-clause-covered : goal.returns-in-Some-clause-covered
returns-in-Some-clause-covered c st covered =
    boxes_but st c.in-Some.next.client (λ q. waits_for c.args.boxes.now q) (λ q. waits_for c.drain_next.new.self q)
    (subst (λ (o : Option (List Reply)). IfSome o (λ rs. rs ≡ [])) (sym c.in-Some.ensures.at) refl) c.in-Some.ensures.others covered

pub returns-in-None-clause-covered : goal.returns-in-None-clause-covered
returns-in-None-clause-covered c st covered =
    boxes_same st st (λ q. waits_for c.args.boxes.now q) (λ q. waits_for c.drain_next.new.self q) (λ send is. is) c.in-None.ensures.same covered
