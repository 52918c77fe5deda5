use Rattle.linda_world_laws.proofs.HonestLaws.{reached_safe}
use Rattle.linda_world_laws.proofs.laws.worlds_are_safe.Goals as goal

pub returns : goal.returns
returns c = reached_safe c.laws_below.ensures.sound c.laws_below.ensures.deeds c.laws_below.ensures.calls
