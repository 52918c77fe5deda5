use Rattle.linda_store_step.proofs.OfferLaws.{step_sought}
use Rattle.linda_store_step.proofs.promises.steps_offer_only_what_is_sought.Goals as goal

pub returns : goal.returns
returns c = step_sought
