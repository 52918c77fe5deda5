use Rattle.linda_client.proofs.OfferLaws.{treats}
use Rattle.linda_client.proofs.laws.offers_are_treated.Goals as goal

pub returns : goal.returns
returns c = treats
