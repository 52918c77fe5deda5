use Rattle.std.proofs.Common.{◌++◌, ◌∷◌, [], sym, ap, subst, ◌∙◌}
use Rattle.linda_bag.proofs.KeptLaws.{as_before, as_after, undone}
use Rattle.linda_hold.specs.Waits.{is_waiting}
use Rattle.linda_hold.specs.Numbered.{AreBelow, wait_at}
use Rattle.linda_hold.specs.Index.{HasWaits}
use Rattle.linda_hold.proofs.EntryLaws.{added, as_rows, below_next, none_above, same_waits, unnamed}
use Rattle.linda_hold.proofs.waits.Waits.add.Goals as goal

pub put-requires : goal.put-requires
put-requires c =
    unnamed c.self.inside.by_arrival.entries c.self.invariant.1.0.0 c.args.request
    (ap (is_waiting c.args.request) c.self.view_is ∙ c.requires)

pub invariant_of-self : goal.invariant_of-self
invariant_of-self c = (
  c.self.invariant.0,
  as_before (HasWaits c.self.inside.index) (HasWaits c.put.new.self) (wait_at c.self.inside.by_arrival.entries) _ _
      (none_above c.self.inside.next (wait_at c.self.inside.by_arrival.entries) c.self.invariant.0) c.in_err-put.ensures.err c.self.invariant.1,
)

pub invariant_of-self-in-Ok : goal.invariant_of-self-in-Ok
invariant_of-self-in-Ok c =
    let old = c.self.inside.by_arrival.entries in
    let new = c.insert.new.self.entries in
    let k = c.self.inside.next in (
      subst (λ next. AreBelow next (wait_at new)) (sym c.in_ok-next.ensures.ok)
          (below_next old new k (c.args.request, c.args.asked) c.self.invariant.0 c.in-Ok.ensures.updates.0),
      as_after (HasWaits c.self.inside.index) (HasWaits c.put.new.self) (wait_at old) k (wait_at new) _ _
          (none_above k (wait_at old) c.self.invariant.0)
          (as_rows (wait_at old) (wait_at new) k _ c.in-Ok.ensures.updates.0) c.in_ok-put.ensures.ok c.self.invariant.1,
    )

pub returns-in-Ok-clause-ok : goal.returns-in-Ok-clause-ok
returns-in-Ok-clause-ok c =
    added c.self.inside.by_arrival.entries c.insert.new.self.entries c.self.inside.next
    (c.args.request, c.args.asked) c.self.invariant.0 c.in-Ok.ensures.updates.0
    ∙ ap (λ waits. waits ++ (c.args.request, c.args.asked) ∷ []) c.self.view_is

pub invariant_of-self-in-Err : goal.invariant_of-self-in-Err
invariant_of-self-in-Err c =
    let old = c.self.inside.by_arrival.entries in
    let k = c.self.inside.next in
    let none = none_above k (wait_at old) c.self.invariant.0 in (
      same_waits (AreBelow k) old c.insert.new.self.entries c.in-Err.ensures.err c.self.invariant.0,
      same_waits (HasWaits c.remove.new.self) old c.insert.new.self.entries c.in-Err.ensures.err
          (undone (HasWaits c.self.inside.index) (HasWaits c.remove.new.self) (wait_at old) k (HasWaits c.put.new.self) _ _ _
          none none (ap (λ p. p.1) c.in-Err.ensures.value_returned) c.in_ok-put.ensures.ok c.remove.ensures c.self.invariant.1),
    )
