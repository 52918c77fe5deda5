use Rattle.std.proofs.Common.{◌∷◌, [], ◌++◌, sym, ap, ◌∙◌, append_assoc}
use Rattle.linda_store_state.proofs.ProperLaws.{none_done}
use Rattle.linda_snap.proofs.ReplayLaws.{one_record_redone, improper_here}
use Rattle.linda_snap.proofs.replay.replay.Goals as goal

pub loop-record-init : goal.loop-record-init
loop-record-init g c = (none_done c.args.state.now c.requires, c.requires, c.into_iter-record-iterator.ensures.into_iter_gives.0)

pub returns-then-not-branch-clause-fault : goal.returns-then-not-branch-clause-fault
returns-then-not-branch-clause-fault g c =
    improper_here c.args.state.now c.loop-record.state c.args.records.items c.loop-record.yielded c.in-Some.record c.next.new.self.rest.items
    (ap (λ l. c.loop-record.yielded ++ l) (sym c.in-Some.ensures.steps.0) ∙ c.loop-record.invariant.2)
    c.requires c.loop-record.invariant.0 (c.in_ok-redo_all.ensures.refused c.if-not-branch.true)

pub loop-record-preserved : goal.loop-record-preserved
loop-record-preserved g c = (
  one_record_redone c.args.state.now c.loop-record.state c.redo_all.new.state c.loop-record.yielded
      c.in-Some.record c.requires c.loop-record.invariant.0 (c.in_ok-redo_all.ensures.done c.if-not-branch.false),
  c.in_ok-redo_all.ensures.ranges,
  append_assoc c.loop-record.yielded (c.in-Some.record ∷ []) c.next.new.self.rest.items
      ∙ ap (λ l. c.loop-record.yielded ++ l) (sym c.in-Some.ensures.steps.0) ∙ c.loop-record.invariant.2,
)
