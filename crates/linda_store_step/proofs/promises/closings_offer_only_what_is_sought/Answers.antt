use Rattle.linda_store_step.proofs.OfferLaws.{close_sought}
use Rattle.linda_store_step.proofs.promises.closings_offer_only_what_is_sought.Goals as goal

pub returns : goal.returns
returns c = close_sought
