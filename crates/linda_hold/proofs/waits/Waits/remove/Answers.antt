use Rattle.std.proofs.Common.{sym, ap, ◌∙◌}
use Rattle.linda_bag.proofs.KeptLaws.{as_after}
use Rattle.linda_hold.specs.Waits.{without}
use Rattle.linda_hold.specs.Numbered.{wait_at}
use Rattle.linda_hold.specs.Index.{HasWaits}
use Rattle.linda_hold.proofs.EntryLaws.{as_rows, below_still, entry_found, taken, without_absent}
use Rattle.linda_hold.proofs.waits.Waits.remove.Goals as goal

pub invariant_of-self : goal.invariant_of-self
invariant_of-self c = (
  below_still c.self.inside.by_arrival.entries c.take_out.new.by_arrival.entries c.in-Some.number
      c.self.inside.next c.self.invariant.0 c.take_out.ensures.others,
  as_after (HasWaits c.self.inside.index) (HasWaits c.remove.new.self)
      (wait_at c.self.inside.by_arrival.entries) c.in-Some.number (wait_at c.take_out.new.by_arrival.entries) _ _
      (sym c.take_out.ensures.value ∙ c.in-Some-take_out.is)
      (as_rows (wait_at c.self.inside.by_arrival.entries) (wait_at c.take_out.new.by_arrival.entries) c.in-Some.number _ c.take_out.ensures.others)
      c.remove.ensures c.self.invariant.1,
)

pub returns-in-Some-take_out : goal.returns-in-Some-take_out
returns-in-Some-take_out c =
    taken c.self.inside.by_arrival.entries c.take_out.new.by_arrival.entries c.in-Some.number
    c.args.request c.self.invariant.1.0.0 (sym c.in-Some.ensures) c.take_out.ensures.others
    ∙ ap (without c.args.request) c.self.view_is

pub invariant_of-self-in_default-take_out : goal.invariant_of-self-in_default-take_out
invariant_of-self-in_default-take_out c =
    absurd (entry_found c.self.inside.by_arrival.entries c.self.invariant.1.0.0 c.args.request c.in-Some.number
    (sym c.in-Some.ensures) (sym c.take_out.ensures.value ∙ c.in_default-take_out.is))

pub returns-in_default-take_out : goal.returns-in_default-take_out
returns-in_default-take_out c =
    absurd (entry_found c.self.inside.by_arrival.entries c.self.invariant.1.0.0 c.args.request c.in-Some.number
    (sym c.in-Some.ensures) (sym c.take_out.ensures.value ∙ c.in_default-take_out.is))

pub returns-in_default : goal.returns-in_default
returns-in_default c =
    sym c.self.view_is
    ∙ without_absent c.self.inside.by_arrival.entries c.self.invariant.1.0.0 c.args.request (sym c.number_of.ensures ∙ c.in_default.is)
    ∙ ap (without c.args.request) c.self.view_is
