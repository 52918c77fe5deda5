use Rattle.linda_snap.proofs.BankWriterLaws.{next_tuples, no_tuples}
use Rattle.linda_snap.proofs.bank_writer.BankWriter.next_tuples.Goals as goal

pub returns-in-Some-clause-some : goal.returns-in-Some-clause-some
returns-in-Some-clause-some g c front follows =
    next_tuples c.args.self.now c.in-Some.snapshot c.spell_next.new.self front c.args.state.now c.spell_next.result
    c.in-Some.is c.spell_next.ensures.next (λ begun bytes owes. c.spell_next.ensures.goes_on begun bytes owes) follows

pub returns-in-Some-clause-none : goal.returns-in-Some-clause-none
returns-in-Some-clause-none g c front follows =
    no_tuples c.args.self.now c.in-Some.snapshot c.spell_next.new.self front c.args.state.now
    c.spell_next.result c.in-Some.is c.spell_next.ensures.next c.spell_next.ensures.ended
    (λ begun bytes owes. c.spell_next.ensures.through begun bytes owes) follows
