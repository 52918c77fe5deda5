-- The other disk is made as long as it is to be beside the bank in use.
use Rattle.std.proofs.Common.{rules}
use Rattle.linda_server.proofs.SwitchLaws.{changed_by}
use Rattle.linda_server.proofs.ReservingLaws.{kept_beside}
use Rattle.linda_server.proofs.reserving.reserve.Goals as goal

pub returns-clause-runs : goal.returns-clause-runs
returns-clause-runs g c st =
    let pair = c.lend-bank.result in
    let new = c.sized-told.result.1 in
    let runs = c.sized-told.ensures.runs in
    let honest = runs.honest in
    let cause = runs.cause in
    record {
      any_moment = λ begun. changed_by g.met.D.Disk.timed c.args.disks.now pair c.lend-bank.ensures.lent st new runs.any_moment;
      kept = λ begun known. kept_beside c.sized-told.result.0 c.args.disks.now pair c.lend-bank.ensures.lent st new
          runs.honest c.sized-told.ensures.now c.sized-told.ensures.durable known;
      there = search rules;
      ready = search rules;
      limit = search rules;
      honest = search (rules, honest);
      cause = search (rules, cause);
    }
