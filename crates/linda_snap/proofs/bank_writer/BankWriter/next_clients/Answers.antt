use Rattle.std.proofs.Common.{ℕ, ◌++◌, sym, subst}
use Rattle.std.specs.Prelude.{IfSome, IfNone}
use Rattle.std.specs.Global.{Vec}
use Rattle.linda_snap.specs.Clients.{OwesClients, AreThrough}
use Rattle.linda_snap.proofs.BankWriterLaws.{more_clients, no_clients, had_none}
use Rattle.linda_snap.proofs.bank_writer.BankWriter.next_clients.Goals as goal

pub returns-in-None-clause-none : goal.returns-in-None-clause-none
returns-in-None-clause-none c front st follows = had_none c.args.self.now c.replace.new.dest front st
    (sym c.in-None.ensures.value) c.in-None.ensures.after follows

pub returns-in-None-2-clause-none : goal.returns-in-None-2-clause-none
returns-in-None-2-clause-none c front st follows =
    no_clients c.args.self.now c.in-Some.clients c.replace.new.dest front st c.requires (sym c.in-Some.ensures.value) c.in-Some.ensures.after
    (subst (λ o. IfNone o (AreThrough c.in-Some.clients)) c.in-None-2.is c.in_ok-spell_next-in-Some.ensures.through) follows

pub returns-in-Some-2-clause-some : goal.returns-in-Some-2-clause-some
returns-in-Some-2-clause-some c front st follows =
    more_clients c.args.self.now c.in-Some.clients c.spell_next.new.self front c.in-Some-2.bytes.items st c.requires (sym c.in-Some.ensures.value)
    (λ begun bytes owes. subst (λ o. IfSome o (λ (more : Vec ℕ). OwesClients begun c.spell_next.new.self (bytes ++ more.items))) c.in-Some-2.is
    (c.in_ok-spell_next-in-Some.ensures.goes_on begun bytes owes)) follows
