use Rattle.linda_world_laws.proofs.HonestLaws.{reached_handed}
use Rattle.linda_world_laws.proofs.laws.what_is_handed_over_was_put.Goals as goal

pub returns : goal.returns
returns c = reached_handed c.laws_below.ensures.sound c.laws_below.ensures.deeds c.laws_below.ensures.calls
