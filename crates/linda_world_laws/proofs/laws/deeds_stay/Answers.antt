use Rattle.linda_world_laws.proofs.HonestLaws.{deeds_stay}
use Rattle.linda_world_laws.proofs.laws.deeds_stay.Goals as goal

pub returns : goal.returns
returns c = deeds_stay
