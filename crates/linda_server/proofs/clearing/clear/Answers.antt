-- The other disk is emptied beside the bank in use.
use Rattle.std.proofs.Common.{rules}
use Rattle.linda_disk.specs.declared.fault.DiskFault.TheVariants.{Device}
use Rattle.linda_disk.proofs.RunsLaws.{honest_of, moment_of, cause_of}
use Rattle.linda_journal.specs.Renewal.{TakesCalls, shuts}
use Rattle.linda_server.proofs.SwitchLaws.{changed_by}
use Rattle.linda_server.proofs.clearing.clear.Goals as goal

pub returns-clause-runs : goal.returns-clause-runs
returns-clause-runs g c st =
    let pair = c.lend-bank.result in
    let told = c.emptied-told.result.0 in
    let new = c.emptied-told.result.1 in
    let honest = honest_of g.D.Disk shuts (TakesCalls 2) Device pair.other told new c.emptied-told.ensures.runs in
    let cause = cause_of g.D.Disk shuts (TakesCalls 2) Device pair.other told new c.emptied-told.ensures.runs in
    record {
      any_moment = λ begun. changed_by g.met.D.Disk.timed c.args.disks.now pair c.lend-bank.ensures.lent st new
          (moment_of g.D.Disk shuts (TakesCalls 2) Device pair.other told new c.emptied-told.ensures.runs);
      kept = search rules;
      there = search rules;
      ready = search rules;
      limit = search rules;
      honest = search (rules, honest);
      cause = search (rules, cause);
    }
