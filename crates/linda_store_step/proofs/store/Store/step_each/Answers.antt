-- With each turn one message more is served.
use Rattle.std.proofs.Common.{take, ap, sym, ◌∙◌, ◌++◌, ◌∷◌, [], subst}
use Rattle.std.proofs.Math.Seq.{take-suc}
use Rattle.std.proofs.lemmas.List.{take_all}
use Rattle.linda_store_step.specs.Served.{IsServed}
use Rattle.linda_store_step.proofs.ServedLaws.{none_served, served_more, one_more}
use Rattle.linda_store_step.proofs.store.Store.step_each.Goals as goal

pub loop-message-preserved : goal.loop-message-preserved
loop-message-preserved g c =
    let ms = c.args.messages.now in
    let i = c.loop-message.message-index in
    let next = take-suc ms i c.message-item.result c.loop-message-test.true ∙ ap (λ m. take i ms ++ m ∷ []) (sym c.message-item.is) in
    let st = c.args.self.now.state in
    let soft = c.args.self.now.soft in
    let old = c.loop-message in
    let new = c.add_step.new.self in
    record {
      unspent = c.in_ok-room.ensures.unspent.1;
      room = c.in_ok-room.ensures.room;
      served = subst (λ l. IsServed st soft l c.add_step.new.served new.state new.soft) (sym (ap (λ k. take k ms) (one_more i) ∙ next))
          (served_more st soft (take i ms) old.served c.add_step.new.served old.self.state old.self.soft c.message-item.result.0 c.message-item.result.1
          new.state new.soft old.invariant.served c.in_ok-room.ensures.ok);
    }

-- At first nothing is served, and at the end all is.
pub loop-message-init : goal.loop-message-init
loop-message-init g c = record {
  unspent = c.requires;
  room = c.new-room.ensures.items;
  served = none_served c.args.self.now.state c.args.self.now.soft c.in_ok-served.served c.in_ok-served.ensures.deeds
      c.in_ok-served.ensures.sends c.in_ok-served.ensures.counts;
}

pub returns-clause-ok : goal.returns-clause-ok
returns-clause-ok g c =
    let l = c.loop-message in
    subst (λ ms. IsServed c.args.self.now.state c.args.self.now.soft ms l.served l.self.state l.self.soft)
    (take_all l.message-index c.args.messages.now c.loop-message-test.false) l.invariant.served
