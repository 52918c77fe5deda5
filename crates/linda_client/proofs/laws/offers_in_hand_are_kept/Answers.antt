use Rattle.linda_client.proofs.HandLaws.{becomes}
use Rattle.linda_client.proofs.laws.offers_in_hand_are_kept.Goals as goal

pub returns : goal.returns
returns c = becomes
