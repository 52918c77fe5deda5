-- Disks in memory are honest.
use Rattle.std.proofs.Common.{IfOk, subst}
use Rattle.linda_server.specs.Reopening.{IsReopened}
use Rattle.linda_server.proofs.durable.stop.Durable+MemDisk.restart.Goals as goal

pub returns-clause-opened : goal.returns-clause-opened
returns-clause-opened c =
    let s = c.args.self.now in
    let mid = c.crash.new.self in
    let same = c.in_ok-crash.ensures.same in
    let new = c.come_back.new.self.store in
    subst (λ b. IfOk c.come_back.result (λ ds. IsReopened b s.lost.items ds.items new)) same.2
    (subst (λ l. IfOk c.come_back.result (λ ds. IsReopened mid.before.value l ds.items new)) same.3 (c.come_back.ensures.opened c.in_ok-crash.ensures.there))
