use Rattle.linda_world_laws.proofs.HonestLaws.{reached_honest}
use Rattle.linda_world_laws.proofs.laws.servers_stay_sound.Goals as goal

pub returns : goal.returns
returns c = λ w reached. (reached_honest c.laws_below.ensures.sound c.laws_below.ensures.deeds c.laws_below.ensures.calls w reached).sound
