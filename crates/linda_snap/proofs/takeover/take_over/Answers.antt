-- The new bank is taken into use, or is not.
use Rattle.std.proofs.Common.{◌+◌, ◌∙◌, sym, subst, arith}
use Rattle.std.proofs.Math.Nat.{min-eq_left}
use Rattle.linda_store_state.specs.DeedFormat.{written}
use Rattle.linda_disk.specs.Run.{LeavesOnly}
use Rattle.linda_disk.specs.declared.fault.DiskFault.TheVariants.{Device}
use Rattle.linda_disk.proofs.RunsLaws.{done_by, broken_by}
use Rattle.linda_journal.specs.Bank.{IsSettled}
use Rattle.linda_journal.specs.Renewal.{IsLast, IsNoneOrNewWith}
use Rattle.linda_snap.specs.Snapshot.{spell_state}
use Rattle.linda_snap.specs.Stands.{IsStored, IsUp}
use Rattle.linda_snap.proofs.StandsLaws.{taking_over, taken_over}
use Rattle.linda_snap.proofs.takeover.take_over.Goals as goal

pub returns-in-Ok-clause-runs : goal.returns-in-Ok-clause-runs
returns-in-Ok-clause-runs g c =
    let now = c.args.current in
    let old = c.args.filling.disk in
    let new = c.in-Ok.bank.disk in
    done_by g.D.Disk old new c.in-Ok.ensures.runs
    (λ honest finishes front st used up filled whole.
    let last = subst (λ n. IsLast n (spell_state written whole.begun) whole.records front c.args.bytes.now) (sym c.generation.ensures) whole.last in
    taking_over now.form now.generation now.end (g.D.Disk.view now.disk) (g.D.Disk.view old) st up
    whole.begun whole.records whole.ranges whole.fits whole.done (g.D.Disk.view new)
    (subst (λ n. LeavesOnly (g.D.Disk.view old) (g.D.Disk.view new) (IsNoneOrNewWith written n (spell_state written whole.begun) whole.records))
    (c.generation.ensures ∙ c.requires) (finishes front (spell_state written whole.begun) whole.records filled last)))
    (λ honest four. four)

pub returns-in-Err-clause-runs : goal.returns-in-Err-clause-runs
returns-in-Err-clause-runs g c =
    let now = c.args.current in
    let old = c.args.filling.disk in
    let new = c.in-Err.other in
    broken_by g.D.Disk Device c.in-Err.fault Device c.in-Err.fault old new c.in-Err.ensures.runs ((λ is. is), (λ is. is))
    (λ honest finishes front st used up filled whole.
    let last = subst (λ n. IsLast n (spell_state written whole.begun) whole.records front c.args.bytes.now) (sym c.generation.ensures) whole.last in
    taking_over now.form now.generation now.end (g.D.Disk.view now.disk) (g.D.Disk.view old) st up
    whole.begun whole.records whole.ranges whole.fits whole.done (g.D.Disk.view new)
    (subst (λ n. LeavesOnly (g.D.Disk.view old) (g.D.Disk.view new) (IsNoneOrNewWith written n (spell_state written whole.begun) whole.records))
    (c.generation.ensures ∙ c.requires) (finishes front (spell_state written whole.begun) whole.records filled last)))

pub returns-in-Ok-clause-done : goal.returns-in-Ok-clause-done
returns-in-Ok-clause-done g c front st used honest up filled whole =
    let now = c.args.current in
    let bank = c.in-Ok.bank in
    let body = spell_state written whole.begun in
    let is = c.generation.ensures ∙ c.requires in
    let last = subst (λ n. IsLast n body whole.records front c.args.bytes.now) (sym c.generation.ensures) whole.last in
    let up_next =
    taken_over now.form now.generation now.end (g.D.Disk.view now.disk) (g.D.Disk.view c.args.filling.disk)
    st up whole.begun whole.records whole.ranges whole.fits whole.done bank.end (g.D.Disk.view bank.disk)
    (subst (λ n. IsSettled written n body whole.records bank.end (g.D.Disk.view bank.disk)) is
    (c.in-Ok.ensures.done front body whole.records honest filled last)) in
    subst (λ f. IsUp f bank.generation bank.end (g.D.Disk.view bank.disk) (g.D.Disk.view c.into_disk.result) st) (sym c.in-Ok.ensures.new.0)
    (subst (λ n. IsUp written n bank.end (g.D.Disk.view bank.disk) (g.D.Disk.view c.into_disk.result) st) (sym (c.in-Ok.ensures.new.1 ∙ is))
    (subst (λ d. IsUp written (now.generation + 1) bank.end (g.D.Disk.view bank.disk) (g.D.Disk.view d) st) (sym c.into_disk.ensures) up_next))

pub returns-in-Ok-clause-stored : goal.returns-in-Ok-clause-stored
returns-in-Ok-clause-stored g c front st filled whole honest =
    let bank = c.in-Ok.bank in
    let body = spell_state written whole.begun in
    let was = c.in-Ok.ensures.runs.honest.1 honest in
    let last = subst (λ n. IsLast n body whole.records front c.args.bytes.now) (sym c.generation.ensures) whole.last in
    let settled = subst (λ n. IsSettled written n body whole.records bank.end (g.D.Disk.view bank.disk))
    (sym c.in-Ok.ensures.new.1) (c.in-Ok.ensures.done front body whole.records was (filled was) last) in
    subst (λ f. IsStored f bank.generation bank.end (g.D.Disk.view bank.disk) st) (sym c.in-Ok.ensures.new.0)
    record { opening = whole.begun; ranges = whole.ranges; fits = whole.fits; records = whole.records; settled = settled; done = whole.done }

pub returns-in-Ok-clause-within : goal.returns-in-Ok-clause-within
returns-in-Ok-clause-within g c front st place whole = omega (arith, c.in-Ok.ensures.place, place, whole.within)

pub returns-in-Ok-clause-records : goal.returns-in-Ok-clause-records
returns-in-Ok-clause-records g c few =
    let count = c.records.ensures in
    c.in-Ok.ensures.records ∙ min-eq_left (omega (arith, c.in-Ok.ensures.place, count, few)) ∙ count
