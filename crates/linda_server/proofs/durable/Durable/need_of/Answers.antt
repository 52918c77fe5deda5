-- The need in the form of the bank in use.
use Rattle.std.proofs.Common.{ap, subst}
use Rattle.linda_store_step.specs.Size.{IsNeedOf}
use Rattle.linda_store_step.specs.History.{Answers}
use Rattle.linda_server.specs.Messages.{messages_of}
use Rattle.linda_server.proofs.durable.Durable.need_of.Goals as goal

pub returns-in-One-clause-need : goal.returns-in-One-clause-need
returns-in-One-clause-need g c all happens =
    let s = c.args.self.now.store in
    subst (λ f. IsNeedOf f all.deeds c.need_of_one.result) c.form-form.ensures
    (c.need_of_one.ensures.need all (subst (λ ms. Answers s.state s.soft ms all) (ap messages_of c.in-One.is) happens))

pub returns-in-Many-clause-need : goal.returns-in-Many-clause-need
returns-in-Many-clause-need g c all happens =
    let s = c.args.self.now.store in
    subst (λ f. IsNeedOf f all.deeds c.need_of.result) c.form-form.ensures
    (c.need_of.ensures.need all (subst (λ ms. Answers s.state s.soft ms all) (ap messages_of c.in-Many.is) happens))
