use Rattle.std.proofs.Common.{Some, None, refl, ◌≡◌, ◌++◌, ◌∙◌, ap, arith, length}
use Rattle.linda_store_state.specs.DeedFormat.{written}
use Rattle.linda_snap.specs.Snapshot.{spell_state}
use Rattle.linda_snap.specs.BankWriter.{heading}
use Rattle.linda_snap.proofs.BankWriterLaws.{begins}
use Rattle.linda_snap.proofs.bank_writer.BankWriter.begin.Goals as goal

pub returns-in-Ok-spell_start-clause-follows : goal.returns-in-Ok-spell_start-clause-follows
returns-in-Ok-spell_start-clause-follows g c =
    let st = c.args.state.now in
    let n = c.args.generation in
    let front : c.in-Ok-spell_start.bytes.items ≡ heading n (length (spell_state written st)) ++ c.in-Ok.first.items =
    c.in-Ok-spell_start.ensures ∙ ap (λ l. heading n l ++ c.deref.result.now) (c.len-len.ensures ∙ c.in-Ok.ensures.len)
    ∙ ap (λ b. heading n (length (spell_state written st)) ++ b) c.deref.ensures.value
    in
    begins record {
      generation = n;
      limit = c.args.limit;
      len = c.len-len.result;
      snapshot = Some c.in-Ok.snapshot;
      clients = None;
      since = c.new.result;
      records = 0;
    } c.in-Ok.snapshot c.in-Ok.first.items c.in-Ok-spell_start.bytes.items st c.requires.ranges refl
    c.in-Ok.ensures.begun c.in-Ok.ensures.next (omega (arith, c.in-Ok.ensures.room, c.requires.short)) c.requires.low
    (omega (arith, c.ranges.generation.fits)) (c.len-len.ensures ∙ c.in-Ok.ensures.len) c.in-Ok.ensures.room refl c.new.ensures.0 c.new.ensures.1 front
