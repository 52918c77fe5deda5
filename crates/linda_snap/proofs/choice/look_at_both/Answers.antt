use Rattle.std.proofs.Common.{refl}
use Rattle.std.proofs.lemmas.Result.{err_from_is_err_and}
use Rattle.linda_snap.specs.declared.choice.ChoiceFault.TheVariants as choices
use Rattle.linda_snap.specs.Choice.{fault_of_device}
use Rattle.linda_snap.proofs.CauseLaws.{device_told, left_told, right_told}
use Rattle.linda_snap.proofs.choice.look_at_both.Goals as goal

pub returns-in_err-one-clause-cause : goal.returns-in_err-one-clause-cause
returns-in_err-one-clause-cause g c =
    let p = err_from_is_err_and c.from_residual.result c.from_residual.ensures.1 in
    let count = g.D.Disk.failures in
    let fault = c.in_err-one.field-0.0 in
    let old = count c.args.left.now in
    let new = count c.look_at.new.disk in
    let right = count c.args.right.now in
    rw (p.1, p.2) (left_told choices.Disk (fault_of_device fault) old new right right (device_told fault old new c.in_err-one.ensures.cause) refl)

pub returns-in_err-two-clause-cause : goal.returns-in_err-two-clause-cause
returns-in_err-two-clause-cause g c =
    let p = err_from_is_err_and c.from_residual-in_err-two.result c.from_residual-in_err-two.ensures.1 in
    let count = g.D.Disk.failures in
    let fault = c.in_err-two.field-0.0 in
    let old = count c.args.right.now in
    let new = count c.look_at-2.new.disk in
    rw (p.1, p.2)
    (right_told choices.Disk (fault_of_device fault) (count c.args.left.now)
    (count c.look_at.new.disk) old new c.in_ok-one.ensures.cause.ok (device_told fault old new c.in_err-two.ensures.cause))
