use Rattle.std.proofs.Common.{◌≡◌, ℕ, List, Ok, subst, arith}
use Rattle.linda_codec.specs.Formats.{short_number}
use Rattle.linda_journal.specs.Journal.{deeds_of}
use Rattle.linda_journal.proofs.ImageLaws.{bank_there, broken_there}
use Rattle.linda_journal.proofs.image.read_image.Goals as goal

pub returns-in-Ok-read_journal-clause-found : goal.returns-in-Ok-read_journal-clause-found
returns-in-Ok-read_journal-clause-found c =
    let heading = c.in-Bank.ensures in
    let told = subst (λ (l : List ℕ). short_number.read l ≡ Ok (c.in-Ok.len, c.in-Ok.rest.now)) c.split_at.ensures.back c.in-Ok.ensures in
    bank_there c.in-Bank.form c.args.bytes.now heading.3.0 c.in-Bank.generation c.in-Ok.len c.in-Ok.rest.now
    (deeds_of c.in-Ok-read_journal.journal.records.items) (λ i. omega (arith, c.type_inv.bytes i))
    heading.0 heading.1 heading.3.1 told c.if-rest-len.false c.in-Ok-read_journal.ensures.found

pub returns-in-Err-Damaged-clause-fault : goal.returns-in-Err-Damaged-clause-fault
returns-in-Err-Damaged-clause-fault c =
    let heading = c.in-Bank.ensures in
    let told = subst (λ (l : List ℕ). short_number.read l ≡ Ok (c.in-Ok.len, c.in-Ok.rest.now)) c.split_at.ensures.back c.in-Ok.ensures in
    let fault = rw c.in-Err-Damaged.field-0-is at c.in-Err-Damaged.ensures.fault in
    rw c.in-Err-Damaged.field-0-is (broken_there c.in-Bank.form c.args.bytes.now heading.3.0 c.in-Bank.generation c.in-Ok.len c.in-Ok.rest.now
    c.in-Err-Damaged.offset fault.0 (λ i. omega (arith, c.type_inv.bytes i)) heading.0 heading.1 heading.3.1 told c.if-rest-len.false fault.1 fault.2)
