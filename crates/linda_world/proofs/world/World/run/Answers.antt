use Rattle.std.proofs.Common.{◌∷◌, [], ◌++◌, sym, ap, ◌∙◌, append_assoc}
use Rattle.linda_world.proofs.WorldLaws.{runs_more, stops_at}
use Rattle.linda_world.proofs.world.World.run.Goals as goal

pub loop-event-preserved : goal.loop-event-preserved
loop-event-preserved g c = (
  runs_more c.args.self.now c.loop-event.self c.pass.new.self c.loop-event.yielded c.in-Some.event c.in-Ok.ensures.0 c.loop-event.invariant.0 c.in-Ok.ensures.1,
  append_assoc c.loop-event.yielded (c.in-Some.event ∷ []) c.next.new.self.rest.items
      ∙ ap (λ l. c.loop-event.yielded ++ l) (sym c.in-Some.ensures.steps.0) ∙ c.loop-event.invariant.1,
)

pub returns-in-Err : goal.returns-in-Err
returns-in-Err g c =
    stops_at c.args.self.now c.loop-event.self c.pass.new.self c.loop-event.yielded c.next.new.self.rest.items
    c.args.events.items c.in-Some.event c.in-Err.fault
    (sym c.loop-event.invariant.1 ∙ ap (λ l. c.loop-event.yielded ++ l) c.in-Some.ensures.steps.0) c.loop-event.invariant.0 c.in-Err.ensures
