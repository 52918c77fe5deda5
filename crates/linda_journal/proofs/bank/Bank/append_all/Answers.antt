use Rattle.std.proofs.Common.{◌+◌, ◌∙◌, All, length, drop, Err, rules, ap, sym, refl, inl, inr, arith}
use Rattle.linda_store_state.specs.DeedFormat.{SuitsForm}
use Rattle.linda_disk.specs.declared.fault.DiskFault.TheVariants.{Device}
use Rattle.linda_disk.proofs.CauseLaws.{renamed}
use Rattle.linda_journal.specs.Faults.{fault_of_disk}
use Rattle.linda_journal.specs.Records.{payload, bytes_for}
use Rattle.linda_journal.proofs.BankLaws.{whole, shut_of, putting_all, settled_with}
use Rattle.linda_journal.proofs.SpellLaws.{records_long, bytes_long}
use Rattle.linda_journal.specs.declared.fault.BankFault.TheVariants as banks
use Rattle.std.proofs.lemmas.Result.{err_from_is_err_and}
use Rattle.linda_journal.proofs.CauseLaws.{disk_failed, none_told, memory_fails_none, device_fills_none, no_memory_fills_none, is_admitted}
use Rattle.linda_journal.proofs.bank.Bank.append_all.Goals as goal

pub returns-in_err-bytes : goal.returns-in_err-bytes
returns-in_err-bytes g c =
    record {
      any_moment = search rules;
      done = search rules;
      place = search rules;
      count = search rules;
      ready = search rules;
      fits = search rules;
      room = search rules;
      full =
          let p = err_from_is_err_and c.from_residual.result c.from_residual.ensures.1 in
          let s = c.args.self.now in
          let ds = c.args.deeds.now in
          let fits = c.in-Some.ensures.suit in
          let room = c.if-not-has_room.ensures.yes (search rules) in (
            λ is. absurd (no_memory_fills_none c.from_residual.result (p.1 ∙ ap (λ y. Err y) p.2) is),
            λ full. absurd (is_admitted (All (SuitsForm s.form) ds) s.limit s.end c.in-Some.len
                (bytes_for (length ds) (length (payload s.form ds))) fits c.in-Some.ensures.exact room full.1),
          );
      unfilled = search rules;
      spent = search rules;
      unspent = search rules;
      cause =
          let p = err_from_is_err_and c.from_residual.result c.from_residual.ensures.1 in
          let count = g.D.Disk.failures in
          rw (p.1, p.2) (none_told banks.Memory (count c.args.self.now.disk) (count c.args.self.now.disk) memory_fails_none refl);
      steady = search rules;
      clock = search rules;
      off = search rules;
      memory = λ is. inl refl;
      known = search rules;
      same = search rules;
      honest = search rules;
    }

pub returns-in_err-put : goal.returns-in_err-put
returns-in_err-put g c =
    let bank = c.args.self.now in
    let fault = c.in_err-put.field-0.0 in
    let p = err_from_is_err_and c.from_residual-in_err-put.result c.from_residual-in_err-put.ensures.1 in
    record {
      any_moment = λ body records honest settled.
          let spelled = c.in_ok-bytes.ensures in
          let front = whole bank.form bank.generation body records in
          let old = g.D.Disk.view bank.disk in
          putting_all bank.form bank.generation body records c.args.deeds.now spelled.records spelled.are
          spelled.behind spelled.starts bank.end old settled spelled.good (g.D.Disk.view c.put.new.disk)
          (c.in_err-put.ensures.runs.any_moment honest front spelled.behind (c.behind_gate.ensures
          ∙ ap (drop 1) (c.deref.ensures.value ∙ spelled.bytes_are)) (shut_of bank.form bank.generation body records bank.end old settled));
      done = search rules;
      place = search rules;
      count = search rules;
      ready = search rules;
      fits = search rules;
      room = search rules;
      full =
          let ds = c.args.deeds.now in
          let fits = c.in-Some.ensures.suit in
          let room = c.if-not-has_room.ensures.yes (search rules) in (
            λ is. absurd (device_fills_none c.from_residual-in_err-put.result fault (p.1 ∙ ap (λ y. Err y) p.2) is),
            λ full. absurd (is_admitted (All (SuitsForm bank.form) ds) bank.limit bank.end c.in-Some.len
                (bytes_for (length ds) (length (payload bank.form ds))) fits c.in-Some.ensures.exact room full.1),
          );
      unfilled = search rules;
      spent = search rules;
      unspent = search rules;
      cause =
          let count = g.D.Disk.failures in
          rw (p.1, p.2) (renamed banks.Disk (fault_of_disk fault) Device fault (count bank.disk)
          (count c.put.new.disk) (disk_failed fault) c.in_err-put.ensures.runs.cause);
      steady = search rules;
      clock = search rules;
      off = search rules;
      memory = λ is. inr refl;
      known = search rules;
      same = search rules;
      honest = c.in_err-put.ensures.runs.honest;
    }

pub returns : goal.returns
returns g c =
    let bank = c.args.self.now in
    let old = g.D.Disk.view bank.disk in
    let new = g.D.Disk.view c.put.new.disk in
    let spelled = c.in_ok-bytes.ensures in
    let parts = c.behind_gate.ensures ∙ ap (drop 1) (c.deref.ensures.value ∙ spelled.bytes_are) in
    record {
      any_moment = λ body records honest settled.
          putting_all bank.form bank.generation body records c.args.deeds.now spelled.records spelled.are
          spelled.behind spelled.starts bank.end old settled spelled.good new
          (c.in_ok-put.ensures.runs.any_moment honest (whole bank.form bank.generation body records) spelled.behind parts
          (shut_of bank.form bank.generation body records bank.end old settled));
      done = λ body records honest settled.
          settled_with bank.form bank.generation body records c.args.deeds.now spelled.records
          spelled.are spelled.behind spelled.starts bank.end old settled spelled.good new _
          (ap (λ n. bank.end + n) (c.in-Some.ensures.exact ∙ sym (records_long bank.form c.args.deeds.now spelled.records spelled.are)))
          (c.in_ok-put.ensures.done (whole bank.form bank.generation body records) spelled.behind parts honest
          (shut_of bank.form bank.generation body records bank.end old settled));
      place = search rules;
      count = search rules;
      ready = search rules;
      fits = search rules;
      room = search rules;
      full = search rules;
      unfilled = search rules;
      spent = search rules;
      unspent = search rules;
      cause = search rules;
      steady = c.in_ok-put.ensures.runs.steady;
      clock = c.in_ok-put.ensures.runs.clock;
      off = search rules;
      memory = search rules;
      known = search rules;
      same = search rules;
      honest = c.in_ok-put.ensures.runs.honest;
    }

-- The gate at the new end is within the file: what was written is as long as the records, and the gate comes after them.
pub invariant_of-self-2-clause-inside : goal.invariant_of-self-2-clause-inside
invariant_of-self-2-clause-inside g c ready honest =
    let bank = c.args.self.now in
    let was = c.in_ok-put.ensures.runs.honest.1 honest in
    let long = bytes_long bank.form c.args.deeds.now c.in_ok-bytes.bytes.items c.behind_gate.result.now c.in_ok-bytes.ensures
    (c.behind_gate.ensures ∙ ap (drop 1) c.deref.ensures.value) in
    omega (arith, long, c.in_ok-put.ensures.long was, c.in-Some.ensures.exact)

pub invariant_of-self-2-clause-counted : goal.invariant_of-self-2-clause-counted
invariant_of-self-2-clause-counted g c =
    let counted = c.args.self.now.counted in
    omega (arith, counted, c.in-Some.ensures.exact, c.records_for.ensures.exact)
