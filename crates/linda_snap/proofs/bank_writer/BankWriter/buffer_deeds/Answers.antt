-- Deeds are noted, or there is no room for them.
use Rattle.std.proofs.Common.{◌≡◌, ◌++◌, ◌∙◌, ◌+◌, ◌<◌, ◌^◌, true, false, inr, length, ap, subst, arith, rules}
use Rattle.linda_store_state.specs.DeedFormat.{written}
use Rattle.linda_journal.specs.Records.{AreRecords}
use Rattle.linda_journal.proofs.SpellLaws.{records_long}
use Rattle.linda_snap.proofs.BankRecordLaws.{notes}
use Rattle.linda_snap.proofs.bank_writer.BankWriter.buffer_deeds.Goals as goal

pub returns-clause-noted : goal.returns-clause-noted
returns-clause-noted c front st new ranges goes safe follows noted =
    let s = c.args.self.now in
    let are : AreRecords written c.args.deeds.now c.in-Some.bytes.items = search rules in
    let has : c.has_room.result ≡ true = search rules in
    notes s c.extend.new.self c.counted-self.result front c.in-Some.bytes.items st new c.args.deeds.now ranges goes safe follows are
    (omega (arith, c.has_room.ensures.yes has, c.len.ensures, c.len-2.ensures, c.in-Some.bytes.ok.0))
    (omega (arith, c.has_room.ensures.small has, c.len.ensures, c.len-2.ensures, c.in-Some.bytes.ok.0))
    (subst (λ n. s.records + n < 2 ^ 64 → c.counted-self.result ≡ s.records + n) c.records_for.ensures.exact c.counted-self.ensures)
    (c.in_ok-extend.ensures.bytes ∙ ap (λ l. s.since.bytes.items ++ l) c.deref.ensures.value) c.in_ok-extend.ensures.written

pub returns-then-not-has_room-clause-full : goal.returns-then-not-has_room-clause-full
returns-then-not-has_room-clause-full c none =
    let ds = c.args.deeds.now in
    let are : AreRecords written ds c.in-Some.bytes.items = search rules in
    let has : c.has_room.result ≡ false = search rules in
    inr (omega (
      arith,
      c.has_room.ensures.no has,
      c.len.ensures,
      c.len-2.ensures,
      c.in-Some.bytes.ok.0,
      ap length are.bytes_are,
      records_long written ds are.records are.are,
    ))
