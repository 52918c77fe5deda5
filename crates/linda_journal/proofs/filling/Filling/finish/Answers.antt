-- The last bytes are there, and the gate opens.
use Rattle.std.proofs.Common.{◌-◌, arith}
use Rattle.linda_disk.specs.declared.fault.DiskFault.TheVariants.{Device}
use Rattle.linda_disk.proofs.RunsLaws.{broken_by, done_on, broken_on}
use Rattle.linda_journal.proofs.FillingLaws.{last_whole, finishing, filling_only}
use Rattle.linda_journal.proofs.filling.Filling.finish.Goals as goal

pub returns-in-Ok-unlock-clause-done : goal.returns-in-Ok-unlock-clause-done
returns-in-Ok-unlock-clause-done g c front body rs honest filled last =
    let w = c.in-Ok.whole in
    c.in-Ok-unlock.ensures.done body rs (c.in-Ok.ensures.runs.honest.0 honest)
    (last_whole c.args.generation body rs front c.args.bytes.now w.at (w.at - 1) (g.D.Disk.view w.disk) last
    (c.in-Ok.ensures.filled front honest filled) (omega (arith, w.behind)))

pub returns-in-Ok-unlock-clause-runs : goal.returns-in-Ok-unlock-clause-runs
returns-in-Ok-unlock-clause-runs g c =
    let w = c.in-Ok.whole in
    done_on g.D.Disk c.args.self.disk w.disk c.in-Ok-unlock.bank.disk c.in-Ok.ensures.runs c.in-Ok-unlock.ensures.runs
    (λ honest still filling unlocking front body rs filled last.
    finishing c.args.generation body rs (g.D.Disk.view c.args.self.disk) (g.D.Disk.view w.disk) (g.D.Disk.view c.in-Ok-unlock.bank.disk) (filling front filled)
    (unlocking body rs (last_whole c.args.generation body rs front c.args.bytes.now w.at (w.at - 1)
    (g.D.Disk.view w.disk) last (c.in-Ok.ensures.filled front honest filled) (omega (arith, w.behind)))))
    (λ honest two two_more. omega (arith, two, two_more))

pub returns-in-Err-unlock-clause-runs : goal.returns-in-Err-unlock-clause-runs
returns-in-Err-unlock-clause-runs g c =
    let w = c.in-Ok.whole in
    broken_on g.D.Disk Device c.in-Err-unlock.fault c.args.self.disk w.disk c.in-Err-unlock.disk c.in-Ok.ensures.runs c.in-Err-unlock.ensures.runs
    (λ honest still filling unlocking front body rs filled last.
    finishing c.args.generation body rs (g.D.Disk.view c.args.self.disk) (g.D.Disk.view w.disk) (g.D.Disk.view c.in-Err-unlock.disk) (filling front filled)
    (unlocking body rs (last_whole c.args.generation body rs front c.args.bytes.now w.at (w.at - 1)
    (g.D.Disk.view w.disk) last (c.in-Ok.ensures.filled front honest filled) (omega (arith, w.behind)))))

pub returns-in-Err-clause-runs : goal.returns-in-Err-clause-runs
returns-in-Err-clause-runs g c =
    broken_by g.D.Disk Device c.in-Err.fault Device c.in-Err.fault c.args.self.disk c.in-Err.disk c.in-Err.ensures.runs ((λ is. is), (λ is. is))
    (λ honest filling front body rs filled last. filling_only c.args.generation body rs
    (g.D.Disk.view c.args.self.disk) (g.D.Disk.view c.in-Err.disk) (filling front filled))
