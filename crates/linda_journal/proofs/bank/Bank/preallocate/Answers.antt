-- With more after its end it is still the same bank.
use Rattle.std.proofs.Common.{rules, sym, refl}
use Rattle.linda_journal.proofs.PreallocationLaws.{begins, same_since, same_settled}
use Rattle.linda_journal.proofs.bank.Bank.preallocate.Goals as goal

pub returns-in-Err : goal.returns-in-Err
returns-in-Err g c =
    let bank = c.args.self.now in
    let view = g.D.Disk.view in
    record {
      any_moment = λ body records honest settled. same_since bank.form bank.generation body records bank.end
          (view bank.disk) (view c.reach.new.disk) settled (c.in-Err.ensures.any_moment honest);
      done = search rules;
      same = search rules;
      more = search rules;
      long = search rules;
      within = search rules;
      off = refl;
      cause = c.in-Err.ensures.cause;
      honest = c.in-Err.ensures.honest;
    }

pub returns-in-Ok : goal.returns-in-Ok
returns-in-Ok g c =
    let bank = c.args.self.now in
    let view = g.D.Disk.view in
    record {
      any_moment = λ body records honest settled. same_since bank.form bank.generation body records bank.end
          (view bank.disk) (view c.reach.new.disk) settled (c.in-Ok.ensures.any_moment honest);
      done = λ body records honest settled.
          let more = c.in-Ok.ensures.more honest in
          same_settled bank.form bank.generation body records bank.end (view bank.disk) (view c.reach.new.disk) settled
          (begins (view bank.disk).seen _ (view c.reach.new.disk).seen c.in-Ok.there more.1) (c.in-Ok.ensures.durable honest);
      same = record { form = refl; generation = refl; limit = refl; end = refl; records = refl; spent = sym c.requires.ready };
      more = c.in-Ok.ensures.more;
      long = search (rules, c.min.ensures, c.in-Ok.ensures.long);
      within = search (rules, c.min.ensures, c.in-Ok.ensures.within);
      off = search rules;
      cause = search rules;
      honest = c.in-Ok.ensures.honest;
    }
