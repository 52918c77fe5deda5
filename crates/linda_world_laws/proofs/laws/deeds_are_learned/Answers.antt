use Rattle.linda_world_laws.proofs.ComingLaws.{learned}
use Rattle.linda_world_laws.proofs.laws.deeds_are_learned.Goals as goal

pub returns : goal.returns
returns c = learned c.replies_tell_the_deed.ensures
