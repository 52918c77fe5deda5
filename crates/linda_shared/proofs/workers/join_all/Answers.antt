use Rattle.std.proofs.Common.{arith, ◌∙◌, sym, ap, [], ◌∷◌, ◌++◌, length, append_assoc}
use Rattle.linda_shared.specs.Working.{HasWorked}
use Rattle.linda_shared.proofs.WorkingLaws.{worked_more}
use Rattle.linda_shared.proofs.workers.join_all.Goals as goal

pub loop-one-preserved : goal.loop-one-preserved
loop-one-preserved g c =
    let inv = c.loop-one.invariant in
    let step = c.in-Some.ensures.steps in
    let added = c.add.ensures in
    let worked : HasWorked c.in-Some.one.before.value c.join.result.seat = c.join.ensures in (
      rw added.seats (worked_more (λ b. b.before.value) c.loop-one.yielded c.loop-one.worked.seats.items c.in-Some.one c.join.result.seat inv.0 worked),
      append_assoc c.loop-one.yielded (c.in-Some.one ∷ []) c.next.new.self.rest.items ∙ (ap (λ l. c.loop-one.yielded ++ l) (sym step.0) ∙ inv.1),
      (let rest = ap length step.0 in let room = inv.2 in let len = added.room.0 in let capacity = added.room.1 in omega (arith, len, capacity, rest, room)),
    )
