-- What was synced is opened as it reads.
use Rattle.std.proofs.Common.{◌≡◌, ◌↔◌, IfOk, IfErr, sym, subst}
use Rattle.std.proofs.lemmas.Result.{IfOk-weaker, IfErr-weaker}
use Rattle.linda_disk.specs.Disk.{TellsFailures}
use Rattle.linda_disk.specs.Run.{LeavesOnly}
use Rattle.linda_journal.specs.declared.fault.BankFault.TheVariants.{Disk}
use Rattle.linda_journal.specs.Bank.{IsBank}
use Rattle.linda_journal.specs.Image.{IsFaultOfBank}
use Rattle.linda_journal.proofs.BankLaws.{after_sync}
use Rattle.linda_journal.proofs.bank.Bank.open.Goals as goal

pub returns-in-Ok : goal.returns-in-Ok
returns-in-Ok g c =
    let is = g.D.Disk.honest in
    let view = g.D.Disk.view in
    let count = g.D.Disk.failures in
    let disk = c.args.disk in
    let opened = c.open_synced.result in
    let told = c.open_synced.ensures in
    let still = c.sync.ensures.honest in
    let synced = c.in-Ok.ensures.syncs in
    record {
      found = λ h. told.found (still.0 h);
      seen = λ h. subst (λ file. IfOk opened (λ o. (view o.0.disk).seen ≡ file)) (synced h).seen (told.seen (still.0 h));
      gates = told.gates;
      new = told.new;
      fault = λ h. subst (λ file. IfErr opened (λ e. (e.0 ≡ Disk → ⊥) → IsFaultOfBank file e.0)) (synced h).seen (told.fault (still.0 h));
      any_moment = λ h.
          let old = view disk in
          let mid = view c.sync.new.self in
          let timed = g.met.D.Disk.timed disk h in
          let all = told.any_moment (still.0 h) in (
            IfOk-weaker opened (λ o. LeavesOnly mid (view o.0.disk) mid.may_leave) (λ o. LeavesOnly old (view o.0.disk) old.may_leave)
                (λ o. after_sync c.sync.result old mid (view o.0.disk) timed (c.sync.ensures.syncs h)) all.0,
            IfErr-weaker opened (λ e. LeavesOnly mid (view e.1) mid.may_leave) (λ e. LeavesOnly old (view e.1) old.may_leave)
                (λ e. after_sync c.sync.result old mid (view e.1) timed (c.sync.ensures.syncs h)) all.1,
          );
      honest = (
        IfOk-weaker opened (λ o. is c.sync.new.self ↔ is o.0.disk) (λ o. is disk ↔ is o.0.disk)
            (λ o two. (λ h. two.0 (still.0 h), λ h. still.1 (two.1 h))) told.honest.0,
        IfErr-weaker opened (λ e. is c.sync.new.self ↔ is e.1) (λ e. is disk ↔ is e.1)
            (λ e two. (λ h. two.0 (still.0 h), λ h. still.1 (two.1 h))) told.honest.1,
      );
      only = λ form generation body records h bank.
          told.only form generation body records (still.0 h) (subst (λ file. IsBank form file generation body records) (sym (synced h).seen) bank);
      cause = subst (λ n. IfErr opened (λ e. TellsFailures Disk e.0 n (count e.1))) c.in-Ok.ensures.cause.ok told.cause;
      steady = subst (λ n. IfOk opened (λ o. count o.0.disk ≡ n)) c.in-Ok.ensures.cause.ok told.steady;
      clock = λ h. subst (λ n. IfOk opened (λ o. (view o.0.disk).moment ≡ n)) (synced h).clock.ok (told.clock (still.0 h));
    }
