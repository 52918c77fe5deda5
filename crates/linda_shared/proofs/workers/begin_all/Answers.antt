use Rattle.std.proofs.Common.{arith, ◌∙◌, sym, ap, [], ◌∷◌, ◌++◌, length, append_assoc}
use Rattle.linda_shared.proofs.WorkingLaws.{same_more}
use Rattle.linda_shared.proofs.workers.begin_all.Goals as goal

pub loop-seat-preserved : goal.loop-seat-preserved
loop-seat-preserved g c =
    let l = c.loop-seat in
    let step = c.in-Some.ensures.steps in
    let pushed = c.push_reserved.ensures in (
      rw pushed.items (same_more (λ b. b.before.value) (λ w. w.0) l.begun.items l.yielded c.begin-one.result
          (c.in-Some.seat, c.in-Some.outlet, c.in-Some.worker) l.invariant.0 c.begin-one.ensures),
      append_assoc l.yielded ((c.in-Some.seat, c.in-Some.outlet, c.in-Some.worker) ∷ []) c.next.new.self.rest.items
          ∙ (ap (λ ws. l.yielded ++ ws) (sym step.0) ∙ l.invariant.1),
      (let rest = ap length step.0 in let room = l.invariant.2 in omega (arith, pushed.len, pushed.capacity, rest, room)),
    )
