-- What a batch leaves of the account.
use Rattle.std.proofs.Common.{sym, subst}
use Rattle.linda_shared_queue.specs.Seat.{with_asked, IsLeftBy}
use Rattle.linda_shared_queue.specs.Heard.{HasHeard}
use Rattle.linda_shared_queue.proofs.HeardLaws.{ends_left}
use Rattle.linda_shared_queue.proofs.heard.Heard.end.Goals as goal

pub returns-in-Some-clause-err : goal.returns-in-Some-clause-err
returns-in-Some-clause-err c before account ms h =
    let s = c.args.self in
    subst (λ fault. IsLeftBy ms (with_asked before account.asked) fault account) (sym c.told_fault.ensures)
    (ends_left before account ms s.told.items c.in-Some.fault s.is_as_before
    (subst (λ fault. HasHeard before ms account s.told.items fault s.is_as_before) c.in-Some.is h))
