-- One hold more was released.
use Rattle.std.proofs.Common.{◌++◌, ap, sym, ◌∙◌, append_assoc}
use Rattle.linda_store_step.specs.Dispatch.{release, release_all}
use Rattle.linda_store_step.proofs.soft.Soft.release_all.Goals as goal

pub loop-id-preserved : goal.loop-id-preserved
loop-id-preserved g c =
    let bag = g.B.Bag.contents c.args.bag.now in
    let was = c.loop-id.self in
    let rest = c.next.new.self.rest.items in
    let one = release bag c.in-Some.id was in
    let taken = c.in-Some.ensures.steps.0 in
    let ensures = c.in_ok-release.ensures in
    record {
      apart = ensures.apart;
      sends = ap (λ xs. xs ++ (release_all bag rest c.release.new.self).sends) ensures.sends
          ∙ append_assoc c.loop-id.sends.items one.sends (release_all bag rest c.release.new.self).sends
          ∙ ap (λ s. c.loop-id.sends.items ++ (one.sends ++ (release_all bag rest s).sends)) ensures.soft
          ∙ ap (λ ids. c.loop-id.sends.items ++ (release_all bag ids was).sends) (sym taken)
          ∙ c.loop-id.invariant.sends;
      soft = ap (λ s. (release_all bag rest s).soft) ensures.soft
          ∙ ap (λ ids. (release_all bag ids was).soft) (sym taken)
          ∙ c.loop-id.invariant.soft;
      right = λ next rights. ensures.right next (c.loop-id.invariant.right next rights);
    }

pub returns-clause-right : goal.returns-clause-right
returns-clause-right g c = c.loop-id.invariant.right
