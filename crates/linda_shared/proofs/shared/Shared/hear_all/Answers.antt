-- The account hears one message more.
use Rattle.std.proofs.Common.{◌≡◌, ◌+◌, List, [], ◌∷◌, ◌++◌, take, suc, sym, ap, ◌∙◌, subst, arith}
use Rattle.std.proofs.Math.Seq.{take-suc}
use Rattle.linda_wire.specs.declared.message.Message.{Message}
use Rattle.linda_shared_queue.specs.Heard.{HasHeard}
use Rattle.linda_shared.proofs.shared.Shared.hear_all.Goals as goal

pub loop-message-preserved : goal.loop-message-preserved
loop-message-preserved g c =
    let l = c.loop-message in
    let i = l.message-index in
    let ms : List Message = c.args.messages.now in
    let m : Message = c.message-item.result in
    let one_more : i + 1 ≡ suc i = omega arith in
    let next : take (i + 1) ms ≡ take i ms ++ m ∷ [] = ap (λ k. take k ms) one_more
    ∙ (take-suc ms i m c.loop-message-test.true ∙ ap (λ (x : Message). take i ms ++ x ∷ []) (sym c.message-item.is)) in
    let new = c.add.new in
    let told = c.add.ensures.told in
    let len = told.0 in
    let capacity = told.1 in
    let many = l.invariant.1 in
    let room = l.invariant.2 in
    let place = l.invariant.3 in (
      subst (λ (k : List Message). HasHeard c.args.account.now k new.account new.self.told.items new.self.fault new.self.is_as_before) (sym next)
          (c.add.ensures.so c.args.account.now (take i ms) l.invariant.0),
      omega (arith, len, many),
      omega (arith, capacity, room),
      omega (arith, place),
    )
