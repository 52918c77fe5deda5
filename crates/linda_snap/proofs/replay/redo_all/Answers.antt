use Rattle.std.proofs.Common.{◌≡◌, ◌∷◌, [], ◌++◌, sym, ap, ◌∙◌, append_assoc, length}
use Rattle.linda_snap.proofs.ReplayLaws.{one_redone, all_redone, stops_here}
use Rattle.linda_snap.proofs.replay.redo_all.Goals as goal

pub returns-then-not-branch-clause-refused : goal.returns-then-not-branch-clause-refused
returns-then-not-branch-clause-refused g c e =
    stops_here c.args.state.now c.loop-deed.state c.args.deeds.items c.loop-deed.yielded c.in-Some.deed c.next.new.self.rest.items
    (ap (λ l. c.loop-deed.yielded ++ l) (sym c.in-Some.ensures.steps.0) ∙ c.loop-deed.invariant.2) c.loop-deed.invariant.0
    (c.in_ok-redo.ensures.refused c.if-not-branch.true).0

pub loop-deed-preserved : goal.loop-deed-preserved
loop-deed-preserved g c =
    let done = c.in_ok-redo.ensures.done c.if-not-branch.false in (
      one_redone c.args.state.now c.loop-deed.state c.redo.new.self c.loop-deed.yielded c.in-Some.deed c.loop-deed.invariant.0 done.0 done.1,
      c.in_ok-redo.ensures.ranges,
      append_assoc c.loop-deed.yielded (c.in-Some.deed ∷ []) c.next.new.self.rest.items
          ∙ ap (λ l. c.loop-deed.yielded ++ l) (sym c.in-Some.ensures.steps.0) ∙ c.loop-deed.invariant.2,
    )

pub returns-clause-done : goal.returns-clause-done
returns-clause-done g c e =
    let none : length c.loop-deed.deed-iterator.rest.items ≡ 0 = sym c.loop-deed.deed-iterator.rest.ok.0 ∙ c.in-None.ensures.steps.0 in
    all_redone c.args.state.now c.loop-deed.state c.args.deeds.items c.loop-deed.yielded
    c.loop-deed.deed-iterator.rest.items c.loop-deed.invariant.2 none c.loop-deed.invariant.0
