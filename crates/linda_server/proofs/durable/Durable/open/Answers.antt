-- The bank that was chosen is the one in use.
use Rattle.std.proofs.Common.{◌∙◌, inl, inr, refl, sym, ap, subst}
use Rattle.linda_store_step.specs.Store.{Store}
use Rattle.linda_snap.specs.Stands.{IsStored, IsUp, Stands}
use Rattle.linda_server.specs.Opening.{fault_of_choice}
use Rattle.linda_server.proofs.PairLaws.{left_for, now_on_sides}
use Rattle.linda_server.proofs.OpeningLaws.{leaves_no_other, took_calls}
use Rattle.linda_snap.specs.declared.choice.ChoiceFault.TheVariants as choices
use Rattle.linda_server.specs.declared.fault.OpenFault.TheVariants as fault
use Rattle.linda_server.proofs.CauseLaws.{none_told, two_renamed, range_fails_none, choice_failed}
use Rattle.linda_server.proofs.durable.Durable.open.Goals as goal

pub returns-in-Err-clause-only : goal.returns-in-Err-clause-only
returns-in-Err-clause-only g c st hl hr limit stands = (
  tt,
  elim (c.in-Err.ensures.only st hl hr stands).1 [
    | inl disk ↦ inl (c.of_choice.ensures ∙ ap fault_of_choice disk)
    | inr memory ↦ inr (c.of_choice.ensures ∙ ap fault_of_choice memory)
  ],
)

pub returns-in-Ok-clause-only : goal.returns-in-Ok-clause-only
returns-in-Ok-clause-only g c st hl hr limit stands =
    (ap (λ (s : Store). s.state) c.from_state-store.ensures ∙ (c.in-Ok.ensures.only st hl hr stands).0, tt)

pub returns-in-Ok-clause-any_moment : goal.returns-in-Ok-clause-any_moment
returns-in-Ok-clause-any_moment g c hl hr =
    let view = g.D.Disk.view in (
      leaves_no_other c.in-Ok.chosen.is_right (view c.args.left) (view c.args.right) (view c.in-Ok.chosen.bank.disk)
          (view c.in-Ok.chosen.other) (c.in-Ok.ensures.any_moment hl hr).0,
      tt,
    )

pub returns-in-Ok-clause-now : goal.returns-in-Ok-clause-now
returns-in-Ok-clause-now g c are left right l r =
    let view = g.D.Disk.view in
    let x = c.in-Ok.chosen in
    let were = c.in-Ok.ensures.honest.0.1 are in
    let st = c.from_state-store.result.state in
    let same = ap (λ (s : Store). s.state) c.from_state-store.ensures in
    let up = subst (λ s. IsUp x.bank.form x.bank.generation x.bank.end (view x.bank.disk) (view x.other) s) (sym same) (c.in-Ok.ensures.up were.0 were.1) in
    ∣ now_on_sides x.is_right (view x.bank.disk) (view x.other) st
    (left_for x.bank.form x.bank.generation x.bank.end (view x.bank.disk) (view x.other) st up) left right l r ∣₁

pub invariant_of-result-clause-kept : goal.invariant_of-result-clause-kept
invariant_of-result-clause-kept g c _ =
    let x = c.in-Ok.chosen in
    let view = g.D.Disk.view in
    let st = c.from_state-store.result.state in
    let same = ap (λ (s : Store). s.state) c.from_state-store.ensures in
    ∣ record {
      stored = λ h. subst (λ s. IsStored x.bank.form x.bank.generation x.bank.end (view x.bank.disk) s) (sym same) (c.in-Ok.ensures.stored h);
      durable = c.in-Ok.ensures.durable;
      lesser = λ hu ho. let were = c.in-Ok.ensures.honest.0.1 (hu, ho) in (c.in-Ok.ensures.up were.0 were.1).lesser;
    } ∣₁

pub returns-in-Ok-clause-found : goal.returns-in-Ok-clause-found
returns-in-Ok-clause-found g c hl hr =
    subst (Stands (g.D.Disk.view c.args.left).seen (g.D.Disk.view c.args.right).seen)
    (sym (ap (λ (s : Store). s.state) c.from_state-store.ensures)) (c.in-Ok.ensures.found hl hr)

pub returns-then-not-is_limit-clause-cause : goal.returns-then-not-is_limit-clause-cause
returns-then-not-is_limit-clause-cause g c =
    let left = g.D.Disk.failures c.args.left in
    let right = g.D.Disk.failures c.args.right in
    none_told fault.Disk fault.LimitRange left left right right range_fails_none refl refl

pub returns-in-Err-clause-any_moment : goal.returns-in-Err-clause-any_moment
returns-in-Err-clause-any_moment g c l r = let both = (c.in-Err.ensures.any_moment l r).1 in (tt, record { left = both.0; right = both.1 })

pub returns-in-Err-clause-cause : goal.returns-in-Err-clause-cause
returns-in-Err-clause-cause g c =
    let count = g.D.Disk.failures in
    two_renamed fault.Disk c.of_choice.result choices.Disk c.in-Err.fault (count c.args.left) (count c.args.right) (count c.in-Err.left) (count c.in-Err.right)
    (choice_failed c.of_choice.result c.in-Err.fault c.of_choice.ensures) c.in-Err.ensures.cause

pub returns-in-Ok-clause-clock : goal.returns-in-Ok-clause-clock
returns-in-Ok-clause-clock g c hl hr =
    let view = g.D.Disk.view in
    let x = c.in-Ok.chosen in
    let took = c.in-Ok.ensures.clock hl hr in
    took_calls x.is_right (view c.args.left) (view c.args.right) (view x.bank.disk) (view x.other) took.0 took.1
