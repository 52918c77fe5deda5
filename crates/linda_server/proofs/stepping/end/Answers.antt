-- The next bank is taken into use, or is not.
use Rattle.std.proofs.Common.{◌+◌, ◌≤◌, not, length, refl, sym, subst, rules, arith}
use Rattle.linda_snap.specs.Stands.{Stands, IsUp}
use Rattle.linda_server.specs.Disks.{sides, IsKept}
use Rattle.linda_server.specs.Next.{IsFilledOn}
use Rattle.linda_server.specs.Pairs.{PairsSince}
use Rattle.linda_server.specs.Server.{both_of, limit_in_use}
use Rattle.linda_server.specs.Switch.{IsTakenOver}
use Rattle.linda_server.specs.declared.disks.Disks.TheVariants.{InUse}
use Rattle.linda_server.proofs.SwitchLaws.{changed, taken, kept_taken}
use Rattle.linda_server.proofs.SteppingLaws.{resumed, ended_by}
use Rattle.linda_server.proofs.stepping.end.Goals as goal

-- The run of a bank that is taken over, on the disk of the pair.
pub returns-in-Err-clause-runs : goal.returns-in-Err-clause-runs
returns-in-Err-clause-runs g c st front =
    let view = g.D.Disk.view in
    let pair = c.lend-bank.result in
    let other = c.in-Err.other in
    let same = c.resume.ensures.0 in
    record {
      any_moment = λ last are up.
          subst (λ d. PairsSince (both_of c.args.disks.now) (sides pair.is_right (view d) (view other)) (λ left right. Stands left right st))
          (sym c.in-Err.ensures.same.1)
          (changed g.met.D.Disk.timed c.args.disks.now pair c.lend-bank.ensures.lent st (view other)
          (ended_by pair st front c.args.at c.resume.result same c.resume.ensures.1 c.args.writer.now c.args.bytes.now other c.in-Err.ensures.runs.any_moment
          (subst (IsFilledOn front c.args.at) c.lend-bank.ensures.lent last.0) last.1) are up);
      kept = search rules;
      there = search rules;
      ready = search rules;
      limit = search rules;
      honest = search rules;
      cause = search rules;
    }

pub returns-in-Ok-clause-runs : goal.returns-in-Ok-clause-runs
returns-in-Ok-clause-runs g c st front =
    let view = g.D.Disk.view in
    let pair = c.lend-bank.result in
    let bank = c.in-Ok.bank in
    let f = c.resume.result in
    let same = c.resume.ensures.0 in
    record {
      any_moment = λ last are up.
          subst (λ d. PairsSince (both_of c.args.disks.now) (sides (not pair.is_right) (view bank.disk) (view d)) (λ left right. Stands left right st))
          (sym c.in-Ok.ensures.same.0)
          (taken g.met.D.Disk.timed c.args.disks.now pair c.lend-bank.ensures.lent st (view bank.disk)
          (ended_by pair st front c.args.at f same c.resume.ensures.1 c.args.writer.now c.args.bytes.now bank.disk c.in-Ok.ensures.runs.any_moment
          (subst (IsFilledOn front c.args.at) c.lend-bank.ensures.lent last.0) last.1) are up);
      kept = λ last kept.
          let was = subst (IsFilledOn front c.args.at) c.lend-bank.ensures.lent last.0 in
          subst (λ d. IsKept (g.D.Disk.honest bank.disk) (g.D.Disk.honest d) bank.form bank.generation bank.end (view bank.disk) (view d) st)
          (sym c.in-Ok.ensures.same.0)
          (kept_taken g.met.D.Disk.timed c.args.disks.now pair c.lend-bank.ensures.lent st
          (g.D.Disk.honest bank.disk) bank.form bank.generation bank.end (view bank.disk)
          (λ h. subst (g.D.Disk.honest) same (c.in-Ok.ensures.runs.honest.1 h))
          (c.in-Ok.ensures.stored front st (λ h. resumed front c.args.at f pair.other same c.resume.ensures.1 was (subst (g.D.Disk.honest) same h)) last.1)
          (λ used other was_up.
          subst (λ d. IsUp bank.form bank.generation bank.end (view bank.disk) (view d) st) c.in-Ok.ensures.same.0
          (c.in-Ok.ensures.done front st used (subst (g.D.Disk.honest) (sym same) other)
          (subst (λ d. IsUp pair.bank.form pair.bank.generation pair.bank.end (view pair.bank.disk) (view d) st) (sym same) was_up)
          (resumed front c.args.at f pair.other same c.resume.ensures.1 was other) last.1))
          kept);
      there = search rules;
      ready = search rules;
      limit = search rules;
      honest = search rules;
      cause = search rules;
    }

pub returns-in-Ok-clause-switched : goal.returns-in-Ok-clause-switched
returns-in-Ok-clause-switched g c =
    let at = c.resume.ensures.1 in
    let fits = subst (λ d. c.args.at + length c.args.bytes.now ≤ limit_in_use d) c.lend-bank.ensures.lent c.requires.fits in
    subst (λ d. IsTakenOver c.args.writer.now.records d
    (InUse record { bank = c.in-Ok.bank; other = c.in-Ok.other; is_right = not c.lend-bank.result.is_right })) (sym c.lend-bank.ensures.lent) (
      refl,
      c.in-Ok.ensures.new.0,
      c.in-Ok.ensures.new.1,
      c.in-Ok.ensures.records (omega (arith, at, c.requires.counted)),
      omega (arith, c.in-Ok.ensures.place, at, fits, c.in-Ok.ensures.new.2),
      c.in-Ok.ensures.same.0,
    )
