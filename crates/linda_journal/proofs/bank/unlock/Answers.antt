-- The gate opens.
use Rattle.std.proofs.Common.{[]}
use Rattle.linda_store_state.specs.DeedFormat.{written}
use Rattle.linda_disk.specs.declared.fault.DiskFault.TheVariants.{Device}
use Rattle.linda_disk.proofs.RunsLaws.{done_by, broken_by}
use Rattle.linda_journal.specs.Bank.{behind_gate}
use Rattle.linda_journal.proofs.RenewalLaws.{unlocking, unlocked}
use Rattle.linda_journal.proofs.bank.unlock.Goals as goal

pub returns-in-Err-clause-runs : goal.returns-in-Err-clause-runs
returns-in-Err-clause-runs g c =
    let w = c.args.whole in
    broken_by g.D.Disk Device c.in-Err.fault Device c.in-Err.fault w.disk c.open_gate.new.disk c.in-Err.ensures.runs ((λ is. is), (λ is. is))
    (λ honest opens body whole. unlocking written w.generation body w.end (g.D.Disk.view w.disk)
    (g.D.Disk.view c.open_gate.new.disk) whole (opens [] (behind_gate written w.generation body) whole.ready))

pub returns-in-Ok-clause-runs : goal.returns-in-Ok-clause-runs
returns-in-Ok-clause-runs g c =
    let w = c.args.whole in
    done_by g.D.Disk w.disk c.open_gate.new.disk c.in-Ok.ensures.runs
    (λ honest opens body whole. unlocking written w.generation body w.end (g.D.Disk.view w.disk)
    (g.D.Disk.view c.open_gate.new.disk) whole (opens [] (behind_gate written w.generation body) whole.ready)) (λ honest two. two)

pub returns-in-Ok-clause-done : goal.returns-in-Ok-clause-done
returns-in-Ok-clause-done g c body honest whole =
    let w = c.args.whole in
    unlocked written w.generation body w.end (g.D.Disk.view w.disk) (g.D.Disk.view c.open_gate.new.disk) whole
    (c.in-Ok.ensures.opened [] (behind_gate written w.generation body) honest whole.ready)
