-- The bank in use is the same, no matter what is after its end.
use Rattle.std.proofs.Common.{rules}
use Rattle.linda_server.proofs.PreallocationLaws.{since, kept}
use Rattle.linda_server.proofs.preallocation.preallocate.Goals as goal

pub returns-in-Ok-clause-runs : goal.returns-in-Ok-clause-runs
returns-in-Ok-clause-runs g c st =
    let pair = c.in-InUse.pair in
    let new = c.preallocate.new.self in
    let same = c.in-Ok.ensures.same in
    record {
      any_moment = λ begun are up. since g.met.D.Disk.timed c.args.disks.now pair c.in-InUse.is st (g.D.Disk.view new.disk) c.in-Ok.ensures.any_moment are up;
      kept = λ begun known. kept g.met.D.Disk.timed c.args.disks.now pair c.in-InUse.is st new same.form
          same.generation same.end c.in-Ok.ensures.honest.1 c.in-Ok.ensures.done known;
      there = search rules;
      ready = search rules;
      limit = search rules;
      honest = search rules;
      cause = search rules;
    }

pub returns-in-Err-clause-runs : goal.returns-in-Err-clause-runs
returns-in-Err-clause-runs g c st =
    let pair = c.in-InUse.pair in
    let new = c.preallocate.new.self in
    record {
      any_moment = λ begun are up. since g.met.D.Disk.timed c.args.disks.now pair c.in-InUse.is st (g.D.Disk.view new.disk) c.in-Err.ensures.any_moment are up;
      kept = search rules;
      there = search rules;
      ready = search rules;
      limit = search rules;
      honest = search rules;
      cause = search rules;
    }
