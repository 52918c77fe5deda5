use Rattle.std.proofs.Common.{sym}
use Rattle.linda_snap.proofs.BankWriterLaws.{turns, has_ended}
use Rattle.linda_snap.proofs.bank_writer.BankWriter.begin_clients.Goals as goal

pub returns-in-None-clause-none : goal.returns-in-None-clause-none
returns-in-None-clause-none c front st behind = has_ended c.args.self.now c.replace.new.dest front st
    (sym c.in-None.ensures.value) c.in-None.ensures.after behind

pub returns-in_ok-clients-in-Some-clause-some : goal.returns-in_ok-clients-in-Some-clause-some
returns-in_ok-clients-in-Some-clause-some c front st behind =
    turns c.args.self.now c.in-Some.snapshot c.replace.new.dest c.into_book-book.result.0 c.into_book-book.result.1
    c.in_ok-clients-in-Some.clients front c.in_ok-clients-in-Some.bytes.items st (sym c.in-Some.ensures.value) c.in-Some.ensures.after
    (λ begun bytes now owes. c.into_book-book.ensures.book begun bytes now owes)
    (λ begun bytes now owes through short. c.into_book-book.ensures.tuples begun bytes now owes through short)
    (λ begun bytes has same is. c.in_ok-clients-in-Some.ensures.owes begun bytes has same is) behind
