-- The gate opens before a journal.
use Rattle.std.proofs.Common.{[], ◌++◌}
use Rattle.linda_store_state.specs.DeedFormat.{written}
use Rattle.linda_disk.specs.declared.fault.DiskFault.TheVariants.{Device}
use Rattle.linda_disk.proofs.RunsLaws.{done_by, broken_by}
use Rattle.linda_journal.specs.Bank.{behind_gate}
use Rattle.linda_journal.specs.Records.{spell_records}
use Rattle.linda_journal.proofs.FillingLaws.{unlocking_with, unlocked_with}
use Rattle.linda_journal.proofs.bank.unlock_with.Goals as goal

pub returns-in-Err-clause-runs : goal.returns-in-Err-clause-runs
returns-in-Err-clause-runs g c =
    broken_by g.D.Disk Device c.in-Err.fault Device c.in-Err.fault c.args.disk c.open_gate.new.disk c.in-Err.ensures.runs ((λ is. is), (λ is. is))
    (λ honest opens body rs whole.
    unlocking_with written c.args.generation body rs c.args.end (g.D.Disk.view c.args.disk) whole (g.D.Disk.view c.open_gate.new.disk)
    (opens [] (behind_gate written c.args.generation body ++ spell_records written rs) whole.ready))

pub returns-in-Ok-clause-runs : goal.returns-in-Ok-clause-runs
returns-in-Ok-clause-runs g c =
    done_by g.D.Disk c.args.disk c.open_gate.new.disk c.in-Ok.ensures.runs
    (λ honest opens body rs whole.
    unlocking_with written c.args.generation body rs c.args.end (g.D.Disk.view c.args.disk) whole (g.D.Disk.view c.open_gate.new.disk)
    (opens [] (behind_gate written c.args.generation body ++ spell_records written rs) whole.ready))
    (λ honest two. two)

pub returns-in-Ok-clause-done : goal.returns-in-Ok-clause-done
returns-in-Ok-clause-done g c body rs honest whole =
    unlocked_with written c.args.generation body rs c.args.end (g.D.Disk.view c.args.disk) whole (g.D.Disk.view c.open_gate.new.disk)
    (c.in-Ok.ensures.opened [] (behind_gate written c.args.generation body ++ spell_records written rs) honest whole.ready)
