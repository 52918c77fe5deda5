use Rattle.std.proofs.Common.{rules, subst}
use Rattle.linda_journal.specs.Journal.{deeds_of}
use Rattle.linda_journal.specs.Bank.{IsBank}
use Rattle.linda_journal.proofs.ImageLaws.{one_bank, only_faults}
use Rattle.linda_journal.proofs.bank.Bank.open_synced.Goals as goal

pub returns-in-Err : goal.returns-in-Err
returns-in-Err g c = record {
  found = search rules;
  seen = search rules;
  gates = search rules;
  new = search rules;
  fault = search rules;
  any_moment = search rules;
  honest = search rules;
  only = λ form generation body records honest bank.
      (tt, only_faults form (g.D.Disk.view c.args.disk).seen generation body records c.in-Err.fault bank (c.in-Err.ensures.fault honest));
  cause = search rules;
  steady = search rules;
  clock = search rules;
}

pub returns-in-Ok : goal.returns-in-Ok
returns-in-Ok g c = record {
  found = search rules;
  seen = search rules;
  gates = search rules;
  new = search rules;
  fault = search rules;
  any_moment = search rules;
  honest = search rules;
  only = λ form generation body records honest bank.
      let o = c.in-Ok.contents in
      let there = subst (λ file. IsBank o.form file o.generation o.body.items (deeds_of o.journal.records.items))
      (c.in-Ok.ensures.seen honest) (c.in-Ok.ensures.found honest).file in (
        one_bank (g.D.Disk.view c.args.disk).seen o.form form o.generation generation o.body.items body
            (deeds_of o.journal.records.items) records there bank,
        tt,
      );
  cause = search rules;
  steady = search rules;
  clock = search rules;
}
