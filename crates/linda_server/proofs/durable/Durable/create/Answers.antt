-- Each step of making a new server leaves no bank, or the whole new one.
use Rattle.std.proofs.Common.{◌≡◌, ◌+◌, ◌∙◌, [], inl, refl, ap, subst}
use Rattle.linda_store_state.specs.State.{empty_state}
use Rattle.linda_store_state.specs.DeedFormat.{written}
use Rattle.linda_journal.specs.Bank.{IsSettled}
use Rattle.linda_store_step.specs.Store.{Store}
use Rattle.linda_server.proofs.PairLaws.{left_for}
use Rattle.linda_journal.specs.declared.fault.BankFault.TheVariants as bank_fault
use Rattle.linda_server.specs.declared.fault.OpenFault.TheVariants.{Disk, Memory}
use Rattle.linda_disk.specs.declared.fault.DiskFault.TheVariants.{Device}
use Rattle.linda_disk.proofs.CauseLaws.{renamed}
use Rattle.linda_server.proofs.CauseLaws.{left_told, right_told, none_told, memory_fails_none}
use Rattle.linda_server.proofs.EmptyLaws.{void_durable, void_seen, nothing_made, gate_made, then_gate, then_bank, bank_made, made_up, up_as, kept_as}
use Rattle.linda_server.proofs.durable.Durable.create.Goals as goal

pub returns-in-Err-clause-any_moment : goal.returns-in-Err-clause-any_moment
returns-in-Err-clause-any_moment g c hl hr vl vr =
    let view = g.D.Disk.view in (
      tt,
      nothing_made (view c.args.left) (view c.expect_empty.new.left) (view c.args.right)
          (view c.expect_empty.new.right) (c.expect_empty.ensures.left hl vl).0 (c.expect_empty.ensures.right hr vr).0,
    )

pub returns-in_default-spell_empty-clause-any_moment : goal.returns-in_default-spell_empty-clause-any_moment
returns-in_default-spell_empty-clause-any_moment g c hl hr vl vr =
    let view = g.D.Disk.view in (
      tt,
      nothing_made (view c.args.left) (view c.expect_empty.new.left) (view c.args.right)
          (view c.expect_empty.new.right) (c.expect_empty.ensures.left hl vl).0 (c.expect_empty.ensures.right hr vr).0,
    )

pub returns-in_default-spell_empty-clause-cause : goal.returns-in_default-spell_empty-clause-cause
returns-in_default-spell_empty-clause-cause g c =
    let count = g.D.Disk.failures in
    none_told Disk Memory (count c.args.left) (count c.expect_empty.new.left) (count c.args.right)
    (count c.expect_empty.new.right) memory_fails_none c.in_default.ensures.steady.0 c.in_default.ensures.steady.1

pub returns-in-Err-lay_gate-clause-any_moment : goal.returns-in-Err-lay_gate-clause-any_moment
returns-in-Err-lay_gate-clause-any_moment g c hl hr vl vr =
    let left = c.expect_empty.ensures.left hl vl in
    let right = c.expect_empty.ensures.right hr vr in
    let right_so = c.expect_empty.ensures.right_honest.0 hr in
    let timed_right = g.met.D.Disk.timed c.expect_empty.new.right right_so in
    let view = g.D.Disk.view in (
      tt,
      gate_made (view c.args.left) (view c.expect_empty.new.left) (view c.args.right) (view c.lay_gate.new.disk) left.0
          (then_gate (view c.args.right) (view c.expect_empty.new.right) (view c.lay_gate.new.disk) right.0
          (c.in-Err-lay_gate.ensures.runs.any_moment right_so (void_durable (view c.expect_empty.new.right) timed_right right.1)
          (void_seen (view c.expect_empty.new.right) timed_right right.1))),
    )

pub returns-in-Err-lay_gate-clause-cause : goal.returns-in-Err-lay_gate-clause-cause
returns-in-Err-lay_gate-clause-cause g c =
    let count = g.D.Disk.failures in
    let told = c.of_device.result in
    right_told Disk told (count c.args.left) (count c.expect_empty.new.left) (count c.args.right) (count c.expect_empty.new.right) (count c.lay_gate.new.disk)
    c.in_default.ensures.steady.0 c.in_default.ensures.steady.1
    (renamed Disk told Device c.in-Err-lay_gate.fault (count c.expect_empty.new.right)
    (count c.lay_gate.new.disk) c.of_device.ensures.device c.in-Err-lay_gate.ensures.runs.cause)

pub returns-in-Err-create-clause-any_moment : goal.returns-in-Err-create-clause-any_moment
returns-in-Err-create-clause-any_moment g c hl hr vl vr =
    let same = c.deref.ensures.value ∙ c.in-Ok.ensures.bytes in
    let left = c.expect_empty.ensures.left hl vl in
    let right = c.expect_empty.ensures.right hr vr in
    let left_so = c.expect_empty.ensures.left_honest.0 hl in
    let right_so = c.expect_empty.ensures.right_honest.0 hr in
    let timed_left = g.met.D.Disk.timed c.expect_empty.new.left left_so in
    let timed_right = g.met.D.Disk.timed c.expect_empty.new.right right_so in
    let view = g.D.Disk.view in (
      tt,
      bank_made (view c.args.left) (view c.in-Err-create.left) (view c.args.right) (view c.lay_gate.new.disk) c.in-Ok.ensures.fits
          (then_bank (view c.args.left) (view c.expect_empty.new.left) (view c.in-Err-create.left) c.deref.result.now same left.0
          (c.in-Err-create.ensures.runs.any_moment left_so (void_durable (view c.expect_empty.new.left) timed_left left.1)
          (void_seen (view c.expect_empty.new.left) timed_left left.1)))
          (then_gate (view c.args.right) (view c.expect_empty.new.right) (view c.lay_gate.new.disk) right.0
          (c.in_default-lay_gate.ensures.runs.any_moment right_so (void_durable (view c.expect_empty.new.right) timed_right right.1)
          (void_seen (view c.expect_empty.new.right) timed_right right.1))),
    )

pub returns-in-Err-create-clause-cause : goal.returns-in-Err-create-clause-cause
returns-in-Err-create-clause-cause g c =
    let count = g.D.Disk.failures in
    let told = c.of_bank.result in
    let gate : count c.lay_gate.new.disk ≡ count c.expect_empty.new.right = c.in_default-lay_gate.ensures.runs.steady in
    left_told Disk told (count c.args.left) (count c.expect_empty.new.left) (count c.in-Err-create.left) (count c.args.right) (count c.lay_gate.new.disk)
    c.in_default.ensures.steady.0
    (renamed Disk told bank_fault.Disk c.in-Err-create.fault (count c.expect_empty.new.left)
    (count c.in-Err-create.left) c.of_bank.ensures.disk c.in-Err-create.ensures.runs.cause)
    (gate ∙ c.in_default.ensures.steady.1)

pub returns-clause-any_moment : goal.returns-clause-any_moment
returns-clause-any_moment g c hl hr vl vr =
    let same = c.deref.ensures.value ∙ c.in-Ok.ensures.bytes in
    let left = c.expect_empty.ensures.left hl vl in
    let right = c.expect_empty.ensures.right hr vr in
    let left_so = c.expect_empty.ensures.left_honest.0 hl in
    let right_so = c.expect_empty.ensures.right_honest.0 hr in
    let timed_left = g.met.D.Disk.timed c.expect_empty.new.left left_so in
    let timed_right = g.met.D.Disk.timed c.expect_empty.new.right right_so in
    let view = g.D.Disk.view in (
      bank_made (view c.args.left) (view c.in-Ok-create.bank.disk) (view c.args.right) (view c.lay_gate.new.disk) c.in-Ok.ensures.fits
          (then_bank (view c.args.left) (view c.expect_empty.new.left) (view c.in-Ok-create.bank.disk) c.deref.result.now same left.0
          (c.in-Ok-create.ensures.runs.any_moment left_so (void_durable (view c.expect_empty.new.left) timed_left left.1)
          (void_seen (view c.expect_empty.new.left) timed_left left.1)))
          (then_gate (view c.args.right) (view c.expect_empty.new.right) (view c.lay_gate.new.disk) right.0
          (c.in_default-lay_gate.ensures.runs.any_moment right_so (void_durable (view c.expect_empty.new.right) timed_right right.1)
          (void_seen (view c.expect_empty.new.right) timed_right right.1))),
      tt,
    )

pub invariant_of-result-clause-kept : goal.invariant_of-result-clause-kept
invariant_of-result-clause-kept g c _ =
    let same = c.deref.ensures.value ∙ c.in-Ok.ensures.bytes in
    let view = g.D.Disk.view in
    let st = c.new-store.result.state in
    let empty : st ≡ empty_state = ap (λ (s : Store). s.state) c.new-store.ensures in
    ∣ kept_as (g.D.Disk.honest c.in-Ok-create.bank.disk) (g.D.Disk.honest c.lay_gate.new.disk) c.in-Ok-create.bank.form
    c.in-Ok-create.bank.generation c.in-Ok-create.bank.end (view c.in-Ok-create.bank.disk) (view c.lay_gate.new.disk) st
    c.in-Ok-create.ensures.new.0 c.in-Ok-create.ensures.new.1 empty c.in-Ok.ensures.fits
    (λ h. subst (λ body. IsSettled written 1 body [] c.in-Ok-create.bank.end (view c.in-Ok-create.bank.disk)) same
    (c.in-Ok-create.ensures.done (c.in-Ok-create.ensures.runs.honest.1 h)))
    (λ h. c.in_default-lay_gate.ensures.shut (c.in_default-lay_gate.ensures.runs.honest.1 h)) ∣₁

pub returns-clause-now : goal.returns-clause-now
returns-clause-now g c are left right l r =
    let same = c.deref.ensures.value ∙ c.in-Ok.ensures.bytes in
    let view = g.D.Disk.view in
    let left_so = c.in-Ok-create.ensures.runs.honest.1 are.0 in
    let right_so = c.in_default-lay_gate.ensures.runs.honest.1 are.1 in
    let settled = subst (λ body. IsSettled written 1 body [] c.in-Ok-create.bank.end (view c.in-Ok-create.bank.disk)) same
    (c.in-Ok-create.ensures.done left_so) in
    let shut = c.in_default-lay_gate.ensures.shut right_so in
    let up = up_as c.in-Ok-create.bank.form c.in-Ok-create.bank.generation c.in-Ok-create.bank.end (view c.in-Ok-create.bank.disk)
    (view c.lay_gate.new.disk) empty_state c.in-Ok-create.ensures.new.0 c.in-Ok-create.ensures.new.1 refl
    (made_up c.in-Ok-create.bank.end (view c.in-Ok-create.bank.disk) (view c.lay_gate.new.disk) c.in-Ok.ensures.fits settled shut) in
    ∣ inl (left_for c.in-Ok-create.bank.form c.in-Ok-create.bank.generation c.in-Ok-create.bank.end
    (view c.in-Ok-create.bank.disk) (view c.lay_gate.new.disk) empty_state up left right l r) ∣₁

pub returns-clause-clock : goal.returns-clause-clock
returns-clause-clock g c hl hr =
    let left_so = c.expect_empty.ensures.left_honest.0 hl in
    let right_so = c.expect_empty.ensures.right_honest.0 hr in
    let left = c.expect_empty.ensures.left_clock hl in
    let right = c.expect_empty.ensures.right_clock hr in
    (c.in-Ok-create.ensures.runs.clock left_so ∙ ap (λ n. n + 6) left, c.in_default-lay_gate.ensures.runs.clock right_so ∙ ap (λ n. n + 2) right)
