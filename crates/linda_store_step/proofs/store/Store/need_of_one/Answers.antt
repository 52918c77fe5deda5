-- What was counted of one message is what is counted of a list of it.
use Rattle.std.proofs.Common.{◌≡◌, ◌∷◌, [], ap}
use Rattle.linda_store_step.specs.Store.{Store}
use Rattle.linda_store_step.proofs.DemandLaws.{need_in}
use Rattle.linda_store_step.proofs.store.Store.need_of_one.Goals as goal

pub returns-clause-need : goal.returns-clause-need
returns-clause-need g c all happens =
    let same : c.self.inside.state ≡ c.args.self.now.state = ap (λ (s : Store). s.state) c.self.view_is in
    need_in c.args.form c.self.inside.state c.args.self.now.state c.args.self.now.soft
    ((c.args.client, c.args.message.now) ∷ []) c.need_of_one.result all same c.self.invariant.0.state_is happens
    c.need_of_one.ensures.bytes c.need_of_one.ensures.deeds c.need_of_one.ensures.suit c.need_of_one.ensures.none
