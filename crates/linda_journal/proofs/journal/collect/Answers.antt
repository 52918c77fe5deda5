use Rattle.std.proofs.Common.{◌-◌, length, drop, subst, sym}
use Rattle.linda_journal.specs.Records.{spell_records}
use Rattle.linda_journal.specs.Journal.{deeds_of}
use Rattle.linda_journal.proofs.JournalLaws.{IsReadUpTo, one_record_more, offset_is, damaged_here, ends_here}
use Rattle.linda_journal.proofs.journal.collect.Goals as goal

pub loop-behind-preserved : goal.loop-behind-preserved
loop-behind-preserved c =
    let whole = c.args.bytes.now in
    let rs = c.loop-behind.records.items in
    let rest = c.loop-behind.rest.now in
    let found = rw c.in-Some-2.is at c.in_ok-read_record.ensures.found in
    subst (λ l. IsReadUpTo c.args.form (drop c.args.at whole) c.args.at l c.in-Some-2.after.now) (sym c.in_ok-push-in-Some-2.ensures.items)
    (one_record_more c.args.form (drop c.args.at whole) c.args.at rs rest c.in-Some.behind.now
    (record { gate = length whole - length rest; deeds = c.in-Some-2.deeds }) c.in-Some-2.after.now c.loop-behind.invariant
    c.in-Some.ensures.opened found.0 found.1 found.2 (offset_is c.args.form whole c.args.at rs rest c.requires c.loop-behind.invariant))

pub returns-in-None-clause-fault : goal.returns-in-None-clause-fault
returns-in-None-clause-fault c =
    let whole = c.args.bytes.now in
    let rs = c.loop-behind.records.items in
    let rest = c.loop-behind.rest.now in
    let none = rw c.in-None.is at c.in_ok-read_record.ensures.none in (
      length (spell_records c.args.form (deeds_of rs)),
      offset_is c.args.form whole c.args.at rs rest c.requires c.loop-behind.invariant,
      damaged_here c.args.form (drop c.args.at whole) c.args.at rs rest c.in-Some.behind.now c.loop-behind.invariant c.in-Some.ensures.opened none,
    )

pub returns-clause-found : goal.returns-clause-found
returns-clause-found c =
    ends_here c.args.form (drop c.args.at c.args.bytes.now) c.args.at c.loop-behind.records.items
    c.loop-behind.rest.now c.loop-behind.invariant c.in_default.ensures.shut
