use Rattle.std.proofs.Common.{◌∙◌, ap, subst}
use Rattle.linda_journal.specs.Journal.{deeds_of}
use Rattle.linda_journal.specs.Bank.{IsBank}
use Rattle.linda_snap.specs.Choice.{IsRecovered, IsUnrecovered}
use Rattle.linda_snap.proofs.ChoiceLaws.{stored_there, counted_there, fault_there, fault_of_bank}
use Rattle.linda_journal.specs.declared.fault.BankFault.TheVariants as banks
use Rattle.linda_snap.proofs.CauseLaws.{none_told, unrecovered_fails_none}
use Rattle.linda_snap.proofs.choice.open_file.Goals as goal

pub returns-in-Ok-recover-clause-found : goal.returns-in-Ok-recover-clause-found
returns-in-Ok-recover-clause-found g c honest =
    stored_there c.in-Ok.bank.form c.in-Ok.bank.generation c.in-Ok.bank.end c.in-Ok.body.items c.in-Ok.records.items
    (g.D.Disk.view c.in-Ok.bank.disk) c.in-Ok-recover.state (c.in-Ok.ensures.found honest)
    (subst (λ f. IsRecovered f c.in-Ok.body.items c.in-Ok.records.items c.in-Ok-recover.state) c.form.ensures c.in-Ok-recover.ensures.found)

pub returns-in-Ok-recover-clause-counted : goal.returns-in-Ok-recover-clause-counted
returns-in-Ok-recover-clause-counted g c honest =
    counted_there c.in-Ok.bank.form c.in-Ok.bank.generation c.in-Ok.bank.end c.in-Ok.body.items c.in-Ok.records.items c.in-Ok.bank.records
    (g.D.Disk.view c.in-Ok.bank.disk) c.in-Ok-recover.state (c.in-Ok.ensures.found honest)
    (subst (λ f. IsRecovered f c.in-Ok.body.items c.in-Ok.records.items c.in-Ok-recover.state) c.form.ensures c.in-Ok-recover.ensures.found)
    c.in-Ok.ensures.new.0

pub returns-in-Err-clause-fault : goal.returns-in-Err-clause-fault
returns-in-Err-clause-fault g c honest other = fault_of_bank (g.D.Disk.view c.args.disk).seen c.in-Err.fault (c.in-Err.ensures.fault honest other)

pub returns-in-Err-recover-clause-fault : goal.returns-in-Err-recover-clause-fault
returns-in-Err-recover-clause-fault g c honest other =
    fault_there c.in-Ok.bank.form (g.D.Disk.view c.args.disk).seen c.in-Ok.bank.generation c.in-Ok.body.items c.in-Ok.records.items c.in-Err-recover.fault
    (subst (λ file. IsBank c.in-Ok.bank.form file c.in-Ok.bank.generation c.in-Ok.body.items (deeds_of c.in-Ok.records.items))
    (c.in-Ok.ensures.seen honest) (c.in-Ok.ensures.found honest).file)
    (subst (λ f. IsUnrecovered f c.in-Ok.body.items c.in-Ok.records.items c.in-Err-recover.fault) c.form.ensures c.in-Err-recover.ensures.fault)

pub returns-in-Err-recover-clause-cause : goal.returns-in-Err-recover-clause-cause
returns-in-Err-recover-clause-cause g c =
    let count = g.D.Disk.failures in
    let fault = c.in-Err-recover.fault in
    none_told banks.Disk fault (count c.args.disk) (count c.into_disk.result)
    (unrecovered_fails_none c.form.result c.in-Ok.body.items c.in-Ok.records.items fault c.in-Err-recover.ensures.fault)
    (ap count c.into_disk.ensures ∙ c.in-Ok.ensures.steady)
