use Rattle.std.proofs.Common.{ap, sym, subst, ◌∙◌}
use Rattle.linda_bag.specs.SearchHints.{AreRight}
use Rattle.linda_hold.specs.Holds.{HeldFor}
use Rattle.linda_store_step.specs.Soft.{Soft, AreApart}
use Rattle.linda_store_step.specs.Looking.{is_held}
use Rattle.linda_store_step.specs.Dispatch.{dispatch}
use Rattle.linda_store_step.proofs.ApartLaws.{taken_apart, dispatch_apart}
use Rattle.linda_store_step.proofs.FreeLaws.{released_elsewhere}
use Rattle.linda_store_step.proofs.soft.Soft.release.Goals as goal

pub dispatch-requires : goal.dispatch-requires
dispatch-requires g c =
    let soft : Soft = record { holds = c.self.inside.holds; waits = c.self.inside.waits } in
    subst
    (λ holds. AreApart (record { holds = holds; waits = c.self.inside.waits }))
    (sym c.remove.ensures)
    (taken_apart c.args.id soft (subst AreApart (sym c.self.view_is) c.requires))

pub returns-in_ok-dispatch-in-Some-clause-apart : goal.returns-in_ok-dispatch-in-Some-clause-apart
returns-in_ok-dispatch-in-Some-clause-apart g c =
    let soft : Soft = record { holds = c.self.inside.holds; waits = c.self.inside.waits } in
    let left : Soft = record { holds = c.remove.new.self; waits = c.self.inside.waits } in
    let apart = subst
    (λ holds. AreApart (record { holds = holds; waits = c.self.inside.waits }))
    (sym c.remove.ensures)
    (taken_apart c.args.id soft (subst AreApart (sym c.self.view_is) c.requires))
    in
    subst AreApart (sym c.in_ok-dispatch-in-Some.ensures.soft) (dispatch_apart c.args.id c.in-Some.tuple.now left apart)

-- What is free elsewhere was free before.
pub returns-in_ok-dispatch-in-Some-clause-right : goal.returns-in_ok-dispatch-in-Some-clause-right
returns-in_ok-dispatch-in-Some-clause-right g c = λ next rights.
    let bag = g.B.Bag.contents c.args.bag.now in
    let soft : Soft = record { holds = c.self.inside.holds; waits = c.self.inside.waits } in
    let now = ap (λ (s : Soft). s.holds) c.in_ok-dispatch-in-Some.ensures.soft
    ∙ ap (λ (h : HeldFor). (dispatch c.args.id c.in-Some.tuple.now (record { holds = h; waits = c.self.inside.waits })).soft.holds) c.remove.ensures in
    c.note_free.ensures bag (is_held soft.holds) next (sym c.in-Some.ensures)
    (released_elsewhere c.args.id c.in-Some.tuple.now soft c.dispatch.new.self.holds now)
    (subst (λ (s : Soft). AreRight bag (is_held s.holds) next c.args.hints.now) (sym c.self.view_is) rights)
