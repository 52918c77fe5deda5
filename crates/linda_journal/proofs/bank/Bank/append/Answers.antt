-- Deeds of one record, as all that are added.
use Rattle.std.proofs.Common.{◌+◌, ◌∙◌, ap, length}
use Rattle.linda_disk.proofs.RunLaws.{weaker}
use Rattle.linda_journal.specs.Bank.{IsOldOrMore, IsOldOrAll}
use Rattle.linda_journal.proofs.AppendLaws.{old_or_one, settled_with_one, on_ok, past_one, past_one_back}
use Rattle.linda_journal.proofs.SpellLaws.{one_count, one_long}
use Rattle.linda_journal.proofs.bank.Bank.append.Goals as goal

pub returns : goal.returns
returns g c =
    let old = c.args.self.now in
    let new = c.append_all.new.self in
    let ds = c.args.deeds.now in
    let some = c.requires.some in
    let few = c.requires.few in
    let all = c.append_all.ensures in
    let long = one_long old.form ds some few in
    record {
      any_moment = λ body records honest settled.
          weaker (g.D.Disk.view old.disk) (g.D.Disk.view new.disk) (IsOldOrAll old.form old.generation body records ds)
          (IsOldOrMore old.form old.generation body records ds)
          (all.any_moment body records honest settled) (old_or_one old.form old.generation body records ds some few);
      done = λ body records honest settled.
          on_ok c.append_all.result _ _ (settled_with_one new.form new.generation body records ds some few new.end (g.D.Disk.view new.disk))
          (all.done body records honest settled);
      place = on_ok c.append_all.result _ _ (λ e. e ∙ ap (λ n. old.end + n) long) all.place;
      count = on_ok c.append_all.result _ _ (λ e. e ∙ ap (λ n. old.records + n) (one_count (length ds) some few)) all.count;
      ready = all.ready;
      fits = all.fits;
      room = all.room;
      full = (
        λ is. let f = all.full.0 is in (f.0, past_one old.form ds old.end old.limit some few f.1),
        λ f. all.full.1 (f.0, past_one_back old.form ds old.end old.limit some few f.1),
      );
      unfilled = all.unfilled;
      spent = all.spent;
      unspent = all.unspent;
      cause = all.cause;
      steady = all.steady;
      clock = all.clock;
      off = all.off;
      memory = all.memory;
      known = all.known;
      same = all.same;
      honest = all.honest;
    }
