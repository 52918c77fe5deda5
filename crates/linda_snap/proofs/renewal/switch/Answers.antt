use Rattle.std.proofs.Common.{◌≡◌, ◌+◌, ◌<◌, ◌^◌, [], inr, length, ap, subst, sym, ◌∙◌, arith}
use Rattle.linda_store_state.specs.DeedFormat.{written}
use Rattle.linda_disk.specs.Run.{LeavesOnly}
use Rattle.linda_journal.specs.Bank.{IsSettled}
use Rattle.linda_journal.specs.Renewal.{pieces, TakesCalls}
use Rattle.linda_journal.proofs.RenewalLaws.{front_length}
use Rattle.linda_snap.specs.Snapshot.{spell_state}
use Rattle.linda_snap.specs.Stands.{IsStored, IsUp}
use Rattle.linda_snap.specs.Switch.{IsOldNoneOrNew, switches}
use Rattle.linda_snap.proofs.StandsLaws.{stays_so, switching, switched, new_stored}
use Rattle.linda_disk.specs.declared.fault.DiskFault.TheVariants.{Device}
use Rattle.linda_journal.specs.declared.limits.TheConstants.{MIN_BYTES}
use Rattle.linda_snap.specs.declared.renewal.SwitchFault.TheVariants as faults
use Rattle.linda_disk.proofs.RunsLaws.{untouched, done_by, broken_by}
use Rattle.linda_snap.proofs.CauseLaws.{switch_failed, fills_none, spends_none, not_too_long}
use Rattle.linda_snap.proofs.renewal.switch.Goals as goal

pub returns-in_default-clause-runs : goal.returns-in_default-clause-runs
returns-in_default-clause-runs g c =
    let now = c.args.current in
    untouched g.D.Disk (switches (g.D.Disk.honest now.disk) now.form now.generation now.end (g.D.Disk.view now.disk) c.args.state.now)
    faults.Disk faults.BankFull c.args.other (λ is. cc)
    (λ honest used up. stays_so now.form now.generation now.end (g.D.Disk.view now.disk)
    (g.D.Disk.view c.args.other) c.args.state.now up (g.met.D.Disk.timed c.args.other honest))

pub returns-in_default-checked_add-clause-runs : goal.returns-in_default-checked_add-clause-runs
returns-in_default-checked_add-clause-runs g c =
    let now = c.args.current in
    untouched g.D.Disk (switches (g.D.Disk.honest now.disk) now.form now.generation now.end (g.D.Disk.view now.disk) c.args.state.now)
    faults.Disk faults.GenerationsSpent c.args.other (λ is. cc)
    (λ honest used up. stays_so now.form now.generation now.end (g.D.Disk.view now.disk)
    (g.D.Disk.view c.args.other) c.args.state.now up (g.met.D.Disk.timed c.args.other honest))

pub returns-in_default-spell_bank-clause-runs : goal.returns-in_default-spell_bank-clause-runs
returns-in_default-spell_bank-clause-runs g c =
    let now = c.args.current in
    untouched g.D.Disk (switches (g.D.Disk.honest now.disk) now.form now.generation now.end (g.D.Disk.view now.disk) c.args.state.now)
    faults.Disk faults.Memory c.args.other (λ is. cc)
    (λ honest used up. stays_so now.form now.generation now.end (g.D.Disk.view now.disk)
    (g.D.Disk.view c.args.other) c.args.state.now up (g.met.D.Disk.timed c.args.other honest))

pub returns-in-Ok-renew-clause-runs : goal.returns-in-Ok-renew-clause-runs
returns-in-Ok-renew-clause-runs g c =
    let now = c.args.current in
    let st = c.args.state.now in
    let old = g.D.Disk.view c.args.other in
    let new = g.D.Disk.view c.in-Ok-renew.bank.disk in
    let next : c.in-Some-checked_add.generation ≡ now.generation + 1 = grind (arith, c.in-Some-checked_add.ensures, c.generation.ensures) in
    let bytes = c.deref.ensures.value ∙ c.in-Ok.ensures.bytes in
    let count = ap length bytes ∙ front_length written c.in-Some-checked_add.generation (spell_state written st) in
    done_by g.D.Disk c.args.other c.in-Ok-renew.bank.disk c.in-Ok-renew.ensures.runs
    (λ honest renews used up.
    let room = c.in-Some.ensures.fits in
    let short : length (spell_state written st) < 2 ^ 32 = omega (arith, room, c.limit-limit.ensures, c.requires.short) in
    switching now.form now.generation now.end (g.D.Disk.view now.disk) old st up new c.requires.ranges c.in-Ok.ensures.fits
    (subst (λ n. LeavesOnly old new (IsOldNoneOrNew old.seen n (spell_state written st))) next (renews (spell_state written st) short bytes)))
    (λ honest calls. subst (λ n. TakesCalls (3 + pieces n) old new) count calls)

pub returns-clause-runs : goal.returns-clause-runs
returns-clause-runs g c =
    let now = c.args.current in
    let st = c.args.state.now in
    let old = g.D.Disk.view c.args.other in
    let new = g.D.Disk.view c.in-Err.other in
    let next : c.in-Some-checked_add.generation ≡ now.generation + 1 = grind (arith, c.in-Some-checked_add.ensures, c.generation.ensures) in
    let bytes = c.deref.ensures.value ∙ c.in-Ok.ensures.bytes in
    broken_by g.D.Disk Device c.in-Err.fault faults.Disk c.from.result c.args.other c.in-Err.other c.in-Err.ensures.runs
    (switch_failed c.in-Err.fault c.from.result c.from.ensures)
    (λ honest renews used up.
    let room = c.in-Some.ensures.fits in
    let short : length (spell_state written st) < 2 ^ 32 = omega (arith, room, c.limit-limit.ensures, c.requires.short) in
    switching now.form now.generation now.end (g.D.Disk.view now.disk) old st up new c.requires.ranges c.in-Ok.ensures.fits
    (subst (λ n. LeavesOnly old new (IsOldNoneOrNew old.seen n (spell_state written st))) next (renews (spell_state written st) short bytes)))

pub returns-in-Ok-renew-clause-done : goal.returns-in-Ok-renew-clause-done
returns-in-Ok-renew-clause-done g c used honest up =
    let st = c.args.state.now in
    let next : c.in-Some-checked_add.generation ≡ c.args.current.generation + 1 = grind (arith, c.in-Some-checked_add.ensures, c.generation.ensures) in
    let room = c.in-Some.ensures.fits in
    let short : length (spell_state written st) < 2 ^ 32 = omega (arith, room, c.limit-limit.ensures, c.requires.short) in
    let bytes = c.deref.ensures.value ∙ c.in-Ok.ensures.bytes in
    let bank = c.in-Ok-renew.bank in
    let up_next = switched c.args.current.form c.args.current.generation c.args.current.end (g.D.Disk.view c.args.current.disk)
    (g.D.Disk.view c.args.other) st up bank.end (g.D.Disk.view bank.disk) c.requires.ranges c.in-Ok.ensures.fits
    (subst (λ n. IsSettled written n (spell_state written st) [] bank.end (g.D.Disk.view bank.disk)) next
    (c.in-Ok-renew.ensures.done (spell_state written st) short bytes honest)) in
    let same : bank.generation ≡ c.args.current.generation + 1 = c.in-Ok-renew.ensures.new.1 ∙ next in
    subst (λ f. IsUp f bank.generation bank.end (g.D.Disk.view bank.disk) (g.D.Disk.view c.into_disk.result) st) (sym c.in-Ok-renew.ensures.new.0)
    (subst (λ n. IsUp written n bank.end (g.D.Disk.view bank.disk) (g.D.Disk.view c.into_disk.result) st) (sym same)
    (subst (λ d. IsUp written (c.args.current.generation + 1) bank.end (g.D.Disk.view bank.disk) (g.D.Disk.view d) st) (sym c.into_disk.ensures) up_next))

pub returns-in-Ok-renew-clause-stored : goal.returns-in-Ok-renew-clause-stored
returns-in-Ok-renew-clause-stored g c honest =
    let st = c.args.state.now in
    let room = c.in-Some.ensures.fits in
    let short : length (spell_state written st) < 2 ^ 32 = omega (arith, room, c.limit-limit.ensures, c.requires.short) in
    let bytes = c.deref.ensures.value ∙ c.in-Ok.ensures.bytes in
    let bank = c.in-Ok-renew.bank in
    subst (λ f. IsStored f bank.generation bank.end (g.D.Disk.view bank.disk) st) (sym c.in-Ok-renew.ensures.new.0)
    (new_stored written bank.generation bank.end (g.D.Disk.view bank.disk) st c.requires.ranges c.in-Ok.ensures.fits
    (subst (λ n. IsSettled written n (spell_state written st) [] bank.end (g.D.Disk.view bank.disk)) (sym c.in-Ok-renew.ensures.new.1)
    (c.in-Ok-renew.ensures.done (spell_state written st) short bytes (c.in-Ok-renew.ensures.runs.honest.1 honest))))

pub returns-clause-refused : goal.returns-clause-refused
returns-clause-refused g c = (
  λ is. absurd (fills_none c.in-Err.fault c.from.result c.from.ensures is),
  λ is. absurd (spends_none c.in-Err.fault c.from.result c.from.ensures is),
  λ is. inr c.retire.ensures.spent,
  λ is. c.retire.ensures.spent,
)

pub returns-clause-full : goal.returns-clause-full
returns-clause-full g c =
    let room = c.in-Some.ensures.fits in
    let long = MIN_BYTES + 1 + length (spell_state written c.args.state.now) in (
      λ is. absurd (fills_none c.in-Err.fault c.from.result c.from.ensures is),
      λ less. absurd (not_too_long c.args.current.limit c.limit-limit.result long c.limit-limit.ensures room less),
    )
