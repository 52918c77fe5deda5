-- The new bank is taken into use, or is not.
use Rattle.std.proofs.Common.{◌+◌, not, ap, sym, subst, rules}
use Rattle.linda_snap.specs.Stands.{Stands, IsUp}
use Rattle.linda_server.specs.Pairs.{PairsSince}
use Rattle.linda_server.specs.Disks.{sides, IsKept}
use Rattle.linda_disk.specs.Disk.{TellsFailures}
use Rattle.linda_snap.specs.declared.renewal.SwitchFault.TheVariants as switches
use Rattle.linda_server.specs.declared.fault.ServeFault.TheVariants as serves
use Rattle.linda_server.specs.Server.{both_of, failures_of}
use Rattle.linda_disk.proofs.CauseLaws.{renamed}
use Rattle.linda_server.proofs.CauseLaws.{beside_told}
use Rattle.linda_server.proofs.SwitchLaws.{changed, taken, kept_taken}
use Rattle.linda_server.proofs.renewal.renew.Goals as goal

pub returns-in-Ok-clause-runs : goal.returns-in-Ok-clause-runs
returns-in-Ok-clause-runs g c =
    let view = g.D.Disk.view in
    let pair = c.lend-bank.result in
    let bank = c.in-Ok.bank in
    let st = c.args.state.now in
    record {
      any_moment = λ begun are up.
          subst (λ d. PairsSince (both_of c.args.disks.now) (sides (not pair.is_right) (view bank.disk) (view d)) (λ left right. Stands left right st))
          (sym c.in-Ok.ensures.same.0)
          (taken g.met.D.Disk.timed c.args.disks.now pair c.lend-bank.ensures.lent st (view bank.disk)
          (λ used other was. c.in-Ok.ensures.runs.any_moment other used was) are up);
      kept = λ begun kept.
          subst (λ d. IsKept (g.D.Disk.honest bank.disk) (g.D.Disk.honest d) bank.form bank.generation bank.end (view bank.disk) (view d) st)
          (sym c.in-Ok.ensures.same.0)
          (kept_taken g.met.D.Disk.timed c.args.disks.now pair c.lend-bank.ensures.lent st
          (g.D.Disk.honest bank.disk) bank.form bank.generation bank.end (view bank.disk)
          c.in-Ok.ensures.runs.honest.1 c.in-Ok.ensures.stored
          (λ used other was. subst (λ d. IsUp bank.form bank.generation bank.end (view bank.disk) (view d) st) c.in-Ok.ensures.same.0
          (c.in-Ok.ensures.done used other was)) kept);
      there = search rules;
      ready = search rules;
      limit = search rules;
      honest = search rules;
      cause = search rules;
    }

pub returns-in-Err-clause-runs : goal.returns-in-Err-clause-runs
returns-in-Err-clause-runs g c =
    let view = g.D.Disk.view in
    let count = g.D.Disk.failures in
    let pair = c.lend-bank.result in
    let new = c.in-Err.other in
    record {
      any_moment = λ begun are up.
          subst (λ d. PairsSince (both_of c.args.disks.now) (sides pair.is_right (view d) (view new)) (λ left right. Stands left right c.args.state.now))
          (sym c.in-Err.ensures.same.1)
          (changed g.met.D.Disk.timed c.args.disks.now pair c.lend-bank.ensures.lent c.args.state.now
          (view new) (λ used other was. c.in-Err.ensures.runs.any_moment other used was) are up);
      kept = search rules;
      there = search rules;
      ready = search rules;
      limit = search rules;
      honest = search rules;
      cause =
          subst (λ d. TellsFailures serves.Disk c.of_switch.result (failures_of d) (count c.in-Err.bank.disk + count new)) (sym c.lend-bank.ensures.lent)
          (beside_told serves.Disk c.of_switch.result (count pair.bank.disk) (count c.in-Err.bank.disk)
          (count pair.other) (count new) (ap count c.in-Err.ensures.same.1)
          (renamed serves.Disk c.of_switch.result switches.Disk c.in-Err.fault (count pair.other)
          (count new) c.of_switch.ensures.disk c.in-Err.ensures.runs.cause));
    }
