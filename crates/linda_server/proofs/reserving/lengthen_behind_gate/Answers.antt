-- What begins with a closed gate stays no bank.
use Rattle.std.proofs.Common.{sym, subst}
use Rattle.linda_disk.proofs.RunLaws.{weaker}
use Rattle.linda_disk.specs.Lengthens.{Begins, HasMore}
use Rattle.linda_journal.specs.Renewal.{IsNoBank, IsClosed}
use Rattle.linda_server.proofs.ReservingLaws.{begins_closed, closed_more}
use Rattle.linda_server.proofs.reserving.lengthen_behind_gate.Goals as goal

pub returns-clause-closed : goal.returns-clause-closed
returns-clause-closed g c h =
    let old = g.D.Disk.view c.args.disk.now in
    let new = g.D.Disk.view c.lengthen.new.disk in
    let gates = c.deref.result.now in
    let more = subst (λ b. HasMore old.seen gates b new.seen) c.in-Ok-true.field-0-test (c.in-Ok-true.ensures.seen h) in
    subst IsClosed (sym more) (closed_more old.seen gates (c.requires.closed h))

pub returns-in-Err-clause-runs : goal.returns-in-Err-clause-runs
returns-in-Err-clause-runs g c =
    let old = g.D.Disk.view c.args.disk.now in
    let new = g.D.Disk.view c.lengthen.new.disk in
    record {
      any_moment = λ h. weaker old new (Begins old.seen) IsNoBank (c.lengthen.ensures.any_moment h)
          (λ image is. begins_closed old.seen image (c.requires.closed h) is);
      honest = c.lengthen.ensures.honest;
      cause = c.in-Err.ensures.cause;
    }

pub returns-in-Ok-false-clause-runs : goal.returns-in-Ok-false-clause-runs
returns-in-Ok-false-clause-runs g c =
    let old = g.D.Disk.view c.args.disk.now in
    let new = g.D.Disk.view c.lengthen.new.disk in
    record {
      any_moment = λ h. weaker old new (Begins old.seen) IsNoBank (c.lengthen.ensures.any_moment h)
          (λ image is. begins_closed old.seen image (c.requires.closed h) is);
      honest = c.lengthen.ensures.honest;
      cause = tt;
    }

pub returns-clause-runs : goal.returns-clause-runs
returns-clause-runs g c =
    let old = g.D.Disk.view c.args.disk.now in
    let new = g.D.Disk.view c.lengthen.new.disk in
    record {
      any_moment = λ h. weaker old new (Begins old.seen) IsNoBank (c.lengthen.ensures.any_moment h)
          (λ image is. begins_closed old.seen image (c.requires.closed h) is);
      honest = c.lengthen.ensures.honest;
      cause = tt;
    }
