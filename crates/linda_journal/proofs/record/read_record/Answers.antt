use Rattle.std.proofs.Common.{◌<◌, ◌++◌, length, subst, sym, ap, ◌∙◌, arith}
use Rattle.linda_journal.specs.Records.{record_body}
use Rattle.linda_journal.proofs.RecordLaws.{record_there, no_payload}
use Rattle.linda_journal.proofs.record.read_record.Goals as goal

pub returns-in-None-clause-none : goal.returns-in-None-clause-none
returns-in-None-clause-none c =
    let none = rw c.in-None.is at c.in_ok-read_payload-in-Ok.ensures.none in
    no_payload c.args.form c.args.behind.now c.in-Ok.len c.in-Ok.rest.now c.in-Ok.ensures (λ ds is e. none ds is (c.split_at.ensures.front ∙ e))

pub returns-in-Some-clause-found : goal.returns-in-Some-clause-found
returns-in-Some-clause-found c =
    let found = rw c.in-Some.is at c.in_ok-read_payload-in-Ok.ensures.found in
    let there = record_there c.args.form c.args.behind.now c.in-Ok.len c.in-Ok.rest.now c.in-Some.deeds.items
    (λ i. omega (arith, c.type_inv.behind i)) c.in-Ok.ensures (omega (arith, c.if-rest-len.false)) (sym c.split_at.ensures.front ∙ found.1) in (
      found.0,
      there.0 ∙ ap (λ r. record_body c.args.form c.in-Some.deeds.items ++ r) (sym c.split_at.ensures.back),
      subst (λ r. 0 < length r) (sym c.split_at.ensures.back) there.1,
    )
