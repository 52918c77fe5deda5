-- The next bank is begun beside the bank in use.
use Rattle.std.proofs.Common.{rules}
use Rattle.linda_disk.specs.Runs.{anything}
use Rattle.linda_disk.proofs.RunsLaws.{honest_of, moment_of, cause_of}
use Rattle.linda_journal.specs.Renewal.{shuts}
use Rattle.linda_server.specs.declared.fault.ServeFault.TheVariants as faults
use Rattle.linda_server.proofs.SwitchLaws.{changed_by}
use Rattle.linda_server.proofs.stepping.start.Goals as goal

pub returns-clause-runs : goal.returns-clause-runs
returns-clause-runs g c =
    let pair = c.lend-bank.result in
    let told = c.start_on-told.result.0 in
    let new = c.start_on-told.result.1 in
    let honest = honest_of g.D.Disk shuts anything faults.Disk pair.other told new c.start_on-told.ensures.runs in
    let cause = cause_of g.D.Disk shuts anything faults.Disk pair.other told new c.start_on-told.ensures.runs in
    record {
      any_moment = λ begun. changed_by g.met.D.Disk.timed c.args.disks.now pair c.lend-bank.ensures.lent c.args.state.now new
          (moment_of g.D.Disk shuts anything faults.Disk pair.other told new c.start_on-told.ensures.runs);
      kept = search rules;
      there = search rules;
      ready = search rules;
      limit = search rules;
      honest = search (rules, honest);
      cause = search (rules, cause);
    }
