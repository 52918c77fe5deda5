use Rattle.std.proofs.Common.{◌∙◌, arith, refl, ◌≡◌, ◌+◌, length, Err, ap}
use Rattle.linda_store_state.specs.DeedFormat.{written}
use Rattle.linda_journal.specs.Bank.{behind_gate}
use Rattle.linda_disk.proofs.RunsLaws.{done_by, broken_by}
use Rattle.linda_journal.proofs.BankLaws.{making, made}
use Rattle.linda_journal.specs.declared.fault.BankFault.TheVariants as banks
use Rattle.linda_journal.specs.declared.limits.TheConstants.{MIN_BYTES}
use Rattle.linda_journal.proofs.CauseLaws.{memory_is_not_full, within_not_past}
use Rattle.linda_journal.proofs.bank.Bank.create.Goals as goal

pub returns-in-Err-clause-runs : goal.returns-in-Err-clause-runs
returns-in-Err-clause-runs g c =
    let generation = c.args.generation in
    let body = c.args.body.now in
    broken_by g.D.Disk banks.Disk c.in-Err.fault banks.Disk c.in-Err.fault c.args.disk c.inscribe.new.disk c.in-Err.ensures.runs ((λ is. is), (λ is. is))
    (λ honest inscribes durable empty.
    making written generation body (g.D.Disk.view c.args.disk) (g.D.Disk.view c.inscribe.new.disk) c.requires.low
    (omega (arith, c.ranges.generation.fits)) c.requires.short
    (inscribes (behind_gate written generation body) (c.deref.ensures.value ∙ c.in-Ok.ensures) durable empty))

pub returns-clause-runs : goal.returns-clause-runs
returns-clause-runs g c =
    let generation = c.args.generation in
    let body = c.args.body.now in
    done_by g.D.Disk c.args.disk c.inscribe.new.disk c.in-Ok-inscribe.ensures.runs
    (λ honest inscribes durable empty.
    making written generation body (g.D.Disk.view c.args.disk) (g.D.Disk.view c.inscribe.new.disk) c.requires.low
    (omega (arith, c.ranges.generation.fits)) c.requires.short
    (inscribes (behind_gate written generation body) (c.deref.ensures.value ∙ c.in-Ok.ensures) durable empty))
    (λ honest six. six)

pub returns-clause-done : goal.returns-clause-done
returns-clause-done g c honest =
    let generation = c.args.generation in
    let body = c.args.body.now in
    made written generation body _ (g.D.Disk.view c.inscribe.new.disk) c.requires.low (omega (arith, c.ranges.generation.fits)) c.requires.short refl
    (c.in-Ok-inscribe.ensures.done (behind_gate written generation body) (c.deref.ensures.value ∙ c.in-Ok.ensures) honest)

pub returns-then-limit-body-clause-full : goal.returns-then-limit-body-clause-full
returns-then-limit-body-clause-full g c = ((λ is. c.if-limit-body.true, λ past. refl), λ is. refl)

pub returns-in_default-clause-full : goal.returns-in_default-clause-full
returns-in_default-clause-full g c =
    let long = MIN_BYTES + 1 + length c.args.body.now in
    ((λ is. absurd (memory_is_not_full is), λ past. absurd (within_not_past c.args.limit long c.if-limit-body.false past)), λ is. refl)

pub returns-in-Err-clause-full : goal.returns-in-Err-clause-full
returns-in-Err-clause-full g c =
    let long = MIN_BYTES + 1 + length c.args.body.now in
    let never = λ (is : c.in-Err.fault ≡ banks.Full). c.in-Err.ensures.known (ap (λ f. Err f) is) in
    ((λ is. absurd (never is), λ past. absurd (within_not_past c.args.limit long c.if-limit-body.false past)), λ is. absurd (never is))
