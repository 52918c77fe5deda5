use Rattle.linda_snap.proofs.BankWriterLaws.{put_aside}
use Rattle.linda_snap.proofs.bank_writer.BankWriter.put_aside.Goals as goal

pub returns-in-Some-clause-follows : goal.returns-in-Some-clause-follows
returns-in-Some-clause-follows g c front follows =
    put_aside c.args.self.now c.in-Some.snapshot c.put_aside.new.self front c.args.state.now c.in-Some.is
    c.put_aside.ensures.same.1 (λ begun bytes owes. c.put_aside.ensures.owes begun bytes owes) follows
