-- More of the next bank is written beside the bank in use.
use Rattle.std.proofs.Common.{sym, subst, rules}
use Rattle.linda_snap.specs.Stands.{Stands}
use Rattle.linda_server.specs.Disks.{sides}
use Rattle.linda_server.specs.Pairs.{PairsSince}
use Rattle.linda_server.specs.Server.{both_of}
use Rattle.linda_server.proofs.SteppingLaws.{written_by}
use Rattle.linda_server.proofs.stepping.write_on.Goals as goal

pub returns-in-Err-clause-runs : goal.returns-in-Err-clause-runs
returns-in-Err-clause-runs g c st front =
    let f = c.resume.result in
    record {
      any_moment = written_by g.met.D.Disk.timed c.args.disks.now c.lend-bank.result c.lend-bank.ensures.lent st
          front c.args.at f c.resume.ensures.0 c.resume.ensures.1 c.in-Err.other c.in-Err.ensures.runs.any_moment;
      kept = search rules;
      there = search rules;
      ready = search rules;
      limit = search rules;
      honest = search rules;
      cause = search rules;
    }

pub returns-in-Ok-clause-runs : goal.returns-in-Ok-clause-runs
returns-in-Ok-clause-runs g c st front =
    let view = g.D.Disk.view in
    let pair = c.lend-bank.result in
    let f = c.resume.result in
    record {
      any_moment = λ filled are up.
          subst (λ d. PairsSince (both_of c.args.disks.now) (sides pair.is_right (view pair.bank.disk) (view d)) (λ left right. Stands left right st))
          (sym c.into_disk.ensures)
          (written_by g.met.D.Disk.timed c.args.disks.now pair c.lend-bank.ensures.lent st front c.args.at f
          c.resume.ensures.0 c.resume.ensures.1 c.in-Ok.filling.disk c.in-Ok.ensures.runs.any_moment filled are up);
      kept = search rules;
      there = search rules;
      ready = search rules;
      limit = search rules;
      honest = search rules;
      cause = search rules;
    }
